-- Voices worked out: what is heard of their notes, and which notes say nothing.
use Rattle.std.proofs.Common.{◌≡◌, ℕ, Bool, true, false, List, [], ◌∷◌, Some, None, refl}
use Rattle.durations.specs.declared.value.Recip.TheVariants.{Of}
use Rattle.derivation.specs.declared.score.ScoreBar.{ScoreBar}
use Rattle.notation.specs.Notes.{Group, Note}
use Rattle.notation_laws.specs.Hearing.{HeardSpan}
use Rattle.notation_laws.specs.NotesHeard.{voice_heard}

abbrev four : ScoreBar
four = record { num = 4; den = 4; tempo = 500000; sf = None }

-- what a note lasts is heard, and not how it is written
abbrev tied : Bool → ℕ → ℕ → Bool → Note
tied comes duration keys goes =
    record {
      duration = duration;
      value = record { recip = Of 1; dots = 0 };
      keys = keys;
      graces = [];
      short = false;
      comes = comes;
      goes = goes;
    }

abbrev rests : ℕ → Note
rests duration = tied false duration 0 false

abbrev plain : List Note → Group
plain notes = record { ratio = record { actual = 1; normal = 1 }; notes = notes }

abbrev span : ℕ → ℕ → ℕ → List ℕ → Bool → HeardSpan ℕ
span start len keys graces short = record { start = start; len = len; keys = keys; graces = graces; short = short }

-- ---- a note with two grace chords between rests, a short note and one that is tied over a barline, and a bar of rests

voice :
    voice_heard 1 (four ∷ four ∷ four ∷ four ∷ [])
    ((plain (rests 16 ∷ []) ∷ plain (record (tied false 16 4 false) { graces = 1 ∷ 2 ∷ [] } ∷ []) ∷ plain (rests 32 ∷ []) ∷ [])
    ∷ (plain (record (tied false 16 6 false) { short = true } ∷ []) ∷ plain (tied false 16 8 true ∷ tied true 32 8 true ∷ []) ∷ [])
    ∷ (plain (tied true 64 8 false ∷ []) ∷ []) ∷ [] ∷ [])
    ≡ Some (span 16 16 4 (1 ∷ 2 ∷ []) false ∷ span 64 16 6 [] true ∷ span 80 112 8 [] false ∷ [])
voice = refl

-- two thirds of a triplet that are one note, with 3 units to the bar
triplet :
    voice_heard 3 (four ∷ [])
    ((record { ratio = record { actual = 3; normal = 2 }; notes = tied false 64 1 false ∷ tied false 128 2 false ∷ [] } ∷ []) ∷ [])
    ≡ Some (span 0 64 1 [] false ∷ span 64 128 2 [] false ∷ [])
triplet = refl

-- ---- nothing is said where a tie comes from no note, goes to other keys, to a rest or to nothing, or has a grace chord in it

from_nothing : voice_heard 1 (four ∷ []) ((plain (tied true 64 1 false ∷ []) ∷ []) ∷ []) ≡ None
from_nothing = refl

to_others : voice_heard 1 (four ∷ []) ((plain (tied false 32 1 true ∷ tied true 32 2 false ∷ []) ∷ []) ∷ []) ≡ None
to_others = refl

to_another : voice_heard 1 (four ∷ []) ((plain (tied false 32 1 true ∷ tied false 32 1 false ∷ []) ∷ []) ∷ []) ≡ None
to_another = refl

to_a_rest : voice_heard 1 (four ∷ four ∷ []) ((plain (tied false 64 1 true ∷ []) ∷ []) ∷ [] ∷ []) ≡ None
to_a_rest = refl

to_the_end : voice_heard 1 (four ∷ []) ((plain (tied false 64 1 true ∷ []) ∷ []) ∷ []) ≡ None
to_the_end = refl

with_a_grace :
    voice_heard 1 (four ∷ []) ((plain (tied false 32 1 true ∷ record (tied true 32 1 false) { graces = 1 ∷ [] } ∷ []) ∷ []) ∷ []) ≡ None
with_a_grace = refl

-- ---- nor where a rest has a grace chord before it

before_a_rest : voice_heard 1 (four ∷ []) ((plain (record (rests 64) { graces = 1 ∷ [] } ∷ []) ∷ []) ∷ []) ≡ None
before_a_rest = refl
