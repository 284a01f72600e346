-- The notes that an event is played as. A part of a whole note is a tick, so there are 64 * R ticks to the whole note.
use Rattle.std.specs.Prelude.{◌↔◌, ℕ, ◌+◌, ◌-◌, ◌*◌, ◌/◌, nat_lt, if◌then◌else◌, List, [], ◌∷◌, ◌++◌, Contains, length, map}
use Rattle.rhythm_base.specs.declared.note.Note.{Note}
use Rattle.rhythm_base.specs.declared.span.Span.{Span}
use Rattle.rhythm_base.specs.Lists.{AreInOrder}
use Rattle.rhythm_base.specs.Notes.{IsKept}
use Rattle.rhythm_base.specs.Performance.{place_of_note}
use Rattle.score_words.specs.Keys.{rising_keys}
use Rattle.voice_events.specs.Parts.{end_parts, len_parts, start_parts}

-- a note of the channel for each key of a chord
abbrev pub chord_notes : ℕ → ℕ → ℕ → ℕ → List Note
chord_notes channel onset end keys = map (λ k. record { channel = channel; key = k; onset = onset; end = end }) (rising_keys keys)

-- grace chords of so many ticks, one after another from a tick on
abbrev pub grace_notes : ℕ → ℕ → ℕ → List ℕ → List Note
grace_notes channel onset ticks [] = []
grace_notes channel onset ticks (keys ∷ graces) =
    chord_notes channel onset (onset + ticks) keys ++ grace_notes channel (onset + ticks) ticks graces

-- a grace chord takes one tick, and none where the event has no more ticks than grace chords
abbrev pub grace_ticks : ℕ → Span → ℕ
grace_ticks resolution x = if nat_lt (length x.graces) (len_parts resolution x) then 1 else 0

-- the chord itself begins after its grace chords
abbrev pub main_onset : ℕ → Span → ℕ
main_onset resolution x = start_parts resolution x + grace_ticks resolution x * length x.graces

-- and ends with the event, or where it is marked short, half way there
abbrev pub main_end : ℕ → Span → ℕ
main_end resolution x =
    if x.short then main_onset resolution x + (end_parts resolution x - main_onset resolution x) / 2 else end_parts resolution x

-- the notes of an event
abbrev pub event_notes : ℕ → ℕ → Span → List Note
event_notes resolution channel x =
    grace_notes channel (start_parts resolution x) (grace_ticks resolution x) x.graces
    ++ chord_notes channel (main_onset resolution x) (main_end resolution x) x.keys

-- the notes that are kept of these, in their order: of those of one channel, key and onset the one with the greatest end
pub record AreKept (played notes : List Note) : Type 0 where
  pub in_order : AreInOrder place_of_note notes
  pub kept : (n : Note) → Contains notes n ↔ IsKept played n
