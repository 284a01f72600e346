-- How events are printed.
use Rattle.std.specs.Prelude.{◌≡◌, ℕ, Bool, true, false, List, [], ◌∷◌, ◌++◌, codes, decimal, map}
use Rattle.std.specs.List.{flat_map}
use Rattle.rhythm_base.specs.declared.span.Frac.{Frac}
use Rattle.rhythm_base.specs.declared.span.Span.{Span}
use Rattle.score_words.specs.Keys.{rising_keys}
use Rattle.voice_events.specs.declared.event.KernEvent.{KernEvent}
use Rattle.voice_events.specs.Events.{span_event}
use Rattle.kern_reader.specs.declared.token.Token.{Token}
use Rattle.kern_reader.specs.Events.{AreColumnSpans, AreEvents}
use Rattle.kern_reader.specs.Score.{KernColumns}

-- a key, after a comma where it is not the first
abbrev pub event_key : Bool → ℕ → List ℕ
event_key true key = decimal key
event_key false key = codes "," ++ decimal key

abbrev pub later_keys_text : List ℕ → List ℕ
later_keys_text keys = flat_map (event_key false) keys

-- the keys of a chord, with a comma between two
abbrev pub listed_text : List ℕ → List ℕ
listed_text [] = []
listed_text (key ∷ keys) = event_key true key ++ later_keys_text keys

-- the same after other keys, or none
abbrev pub listed_on : Bool → List ℕ → List ℕ
listed_on true keys = listed_text keys
listed_on false keys = later_keys_text keys

abbrev pub keys_text : ℕ → List ℕ
keys_text keys = listed_text (rising_keys keys)

abbrev pub frac_text : Frac → List ℕ
frac_text f = decimal f.num ++ (codes "/" ++ decimal f.den)

abbrev pub kind_text : Bool → List ℕ
kind_text true = codes "short"
kind_text false = codes "note"

-- a q and the keys of each grace chord
abbrev pub event_graces : ℕ → List ℕ
event_graces keys = codes " q" ++ keys_text keys

abbrev pub graces_text : List ℕ → List ℕ
graces_text graces = flat_map event_graces graces

-- the spine, the start and the length ..
abbrev pub place_text : KernEvent → List ℕ
place_text e = decimal e.spine ++ codes " " ++ frac_text e.span.start ++ codes " " ++ frac_text e.span.len

-- .. the kind and the keys, with a space between two ..
abbrev pub sound_text : Span → List ℕ
sound_text x = codes " " ++ kind_text x.short ++ codes " " ++ keys_text x.keys

-- .. and the grace chords
abbrev pub event_text : KernEvent → List ℕ
event_text e = place_text e ++ sound_text e.span ++ graces_text e.span.graces ++ (10 ∷ [])

abbrev pub events_text : List KernEvent → List ℕ
events_text events = flat_map event_text events

-- the text has the lines of the events of a score
abbrev pub AreEventLines : KernColumns → List ℕ → Type 0
AreEventLines score text = (events : List KernEvent) × AreEvents score events × (text ≡ events_text events)

-- the lines of the events of a column are added to a text
abbrev pub AddsColumnLines : ℕ → ℕ → List Token → List ℕ → List ℕ → Type 0
AddsColumnLines grid spine column old new = (spans : List Span) × AreColumnSpans grid column spans × (new ≡ old ++ events_text (map (span_event spine) spans))
