-- Strokes: what is struck at one tick of a voice. An event is a stroke for each of its grace chords and one for itself; where
-- grace chords take no time it is a single stroke.
use Rattle.std.specs.Prelude.{ℕ, ◌+◌, ◌==◌, nat_lt, if◌then◌else◌, List, [], ◌∷◌, ◌++◌, bit_or, fold, length, map}
use Rattle.std.proofs.Common.{suc}
use Rattle.std.specs.Int.{bit_at}
use Rattle.std.specs.List.{flat_map}
use Rattle.rhythm_base.specs.declared.event.Event.{Event}
use Rattle.rhythm_base.specs.declared.note.Note.{Note}
use Rattle.rhythm_base.specs.declared.span.Span.{Span}
use Rattle.voice_events.specs.declared.event.KernEvent.{KernEvent}
use Rattle.voice_events.specs.Parts.{len_parts, start_parts}
use Rattle.score_words.specs.Keys.{rising_keys}
use Rattle.smf_writer.specs.EventNotes.{main_end, main_onset}
use Rattle.smf_writer.specs.NoteMessages.{Message, begins, ends, event_of}
use Rattle.smf_writer.specs.declared.stroke.Stroke.{Stroke}

-- ---- the notes of a stroke and their messages

-- a key that is held sounds up to the stroke's end, and any other one for no time
abbrev pub stroke_note : ℕ → Stroke → ℕ → Note
stroke_note channel s key =
    record { channel = channel; key = key; onset = s.onset; end = if bit_at s.held key == 1 then s.end else s.onset }

abbrev pub stroke_notes : ℕ → Stroke → List Note
stroke_notes channel s = map (stroke_note channel s) (rising_keys (bit_or s.held s.passing))

-- notes begin, and those of no length end at once
abbrev pub begun_messages : Note → List Message
begun_messages n = begins n ∷ (if nat_lt n.onset n.end then [] else ends n ∷ [])

-- those of some length end after that
abbrev pub ended : Note → List Message
ended n = if nat_lt n.onset n.end then ends n ∷ [] else []

-- the messages of notes that begin together, and end together where they have some length
abbrev pub together : List Note → List Message
together notes = flat_map begun_messages notes ++ flat_map ended notes

abbrev pub stroke_messages : ℕ → Stroke → List Message
stroke_messages channel s = together (stroke_notes channel s)

-- and their events
abbrev pub begun_events : List Note → List Event
begun_events notes = map event_of (flat_map begun_messages notes)

abbrev pub ended_events : List Note → List Event
ended_events notes = map event_of (flat_map ended notes)

abbrev pub stroke_events : ℕ → Stroke → List Event
stroke_events channel s = map event_of (stroke_messages channel s)

-- ---- the strokes of an event

-- each grace chord has a tick
abbrev pub grace_strokes : ℕ → List ℕ → List Stroke
grace_strokes onset [] = []
grace_strokes onset (keys ∷ graces) = record { onset = onset; end = onset + 1; held = keys; passing = 0 } ∷ grace_strokes (onset + 1) graces

abbrev pub joined_keys : List ℕ → ℕ
joined_keys graces = fold bit_or 0 graces

abbrev pub main_stroke : ℕ → Span → ℕ → Stroke
main_stroke resolution x passing = record { onset = main_onset resolution x; end = main_end resolution x; held = x.keys; passing = passing }

abbrev pub event_strokes : ℕ → Span → List Stroke
event_strokes resolution x =
    if nat_lt (length x.graces) (len_parts resolution x)
    then grace_strokes (start_parts resolution x) x.graces ++ main_stroke resolution x 0 ∷ []
    else main_stroke resolution x (joined_keys x.graces) ∷ []

-- ---- the tracks of voices

-- the events of the track of a spine, as the strokes make them
abbrev pub strokes_events : ℕ → List Stroke → List Event
strokes_events channel strokes = flat_map (stroke_events channel) strokes

-- those of grace chords from a tick on
abbrev pub grace_events : ℕ → ℕ → List ℕ → List Event
grace_events channel onset graces = strokes_events channel (grace_strokes onset graces)

-- and those of a span
abbrev pub span_events : ℕ → ℕ → Span → List Event
span_events resolution channel x = strokes_events channel (event_strokes resolution x)

abbrev pub own_events : ℕ → ℕ → ℕ → KernEvent → List Event
own_events resolution channel spine e = if e.spine == spine then span_events resolution channel e.span else []

abbrev pub spine_events : ℕ → List KernEvent → ℕ → ℕ → List Event
spine_events resolution events spine channel = flat_map (own_events resolution channel spine) events

-- those of the spines from this number on, a channel each
abbrev pub voices_from : ℕ → List KernEvent → ℕ → List ℕ → List (List Event)
voices_from resolution events spine [] = []
voices_from resolution events spine (channel ∷ channels) =
    spine_events resolution events spine channel ∷ voices_from resolution events (suc spine) channels
