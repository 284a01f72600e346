-- Strums, worked out: at 500 ticks of a quarter a tick of the usual tempo is a millisecond.
use Rattle.std.proofs.Common.{◌≡◌, ℕ, List, [], ◌∷◌, refl, Some, Ok}
use Rattle.rhythm_base.specs.Time.{time}
use Rattle.rhythm_base.specs.declared.note.Note.{Note}
use Rattle.performance_load.specs.Take.{Take}
use Rattle.performance_prepare.specs.Laws.{no_options}
use Rattle.performance_prepare.specs.Prepared.{prepared}
use Rattle.performance_prepare.specs.Strum.{with_strum}

abbrev note : ℕ → ℕ → ℕ → ℕ → Note
note channel key onset end = record { channel = channel; key = key; onset = onset; end = end }

abbrev take_of : List Note → Take
take_of notes = record { division = 500; notes = notes; tempos = []; key_marks = []; signatures = [] }

abbrev roll : List Note
roll = note 0 48 100 960 ∷ note 0 52 124 960 ∷ note 0 55 149 960 ∷ note 0 60 170 960 ∷ []

-- each note 25 ms at most after the one before it
one_strum : with_strum 25 (take_of roll) ≡ take_of (note 0 48 135 960 ∷ note 0 52 135 960 ∷ note 0 55 135 960 ∷ note 0 60 135 960 ∷ [])
unfolding time
one_strum = refl

-- the third comes 25 ms after the second
two_strums : with_strum 24 (take_of roll) ≡ take_of (note 0 48 112 960 ∷ note 0 52 112 960 ∷ note 0 55 159 960 ∷ note 0 60 159 960 ∷ [])
unfolding time
two_strums = refl

no_strum : with_strum 20 (take_of roll) ≡ take_of roll
unfolding time
no_strum = refl

-- the first sounds 40 ms past the second, and 41
let_go : with_strum 100 (take_of (note 0 60 0 140 ∷ note 0 64 100 400 ∷ [])) ≡ take_of (note 0 60 0 140 ∷ note 0 64 100 400 ∷ [])
unfolding time
let_go = refl

held_on : with_strum 100 (take_of (note 0 60 0 141 ∷ note 0 64 100 400 ∷ [])) ≡ take_of (note 0 60 50 141 ∷ note 0 64 50 400 ∷ [])
unfolding time
held_on = refl

-- a quick run, each note to the next
quick_run : with_strum 100 (take_of (note 0 60 0 30 ∷ note 0 62 30 60 ∷ note 0 64 60 500 ∷ []))
    ≡ take_of (note 0 60 0 30 ∷ note 0 62 30 60 ∷ note 0 64 60 500 ∷ [])
unfolding time
quick_run = refl

-- a key that is struck again
struck_again : with_strum 100 (take_of (note 0 60 0 20 ∷ note 0 62 0 500 ∷ note 0 60 30 500 ∷ []))
    ≡ take_of (note 0 60 0 20 ∷ note 0 62 0 500 ∷ note 0 60 30 500 ∷ [])
unfolding time
struck_again = refl

-- a key that is struck again before it has ended, as in no file: there a second strum changes the take again
struck_early : with_strum 30 (take_of (note 0 63 0 500 ∷ note 0 63 20 500 ∷ note 0 60 40 500 ∷ []))
    ≡ take_of (note 0 63 0 500 ∷ note 0 60 30 500 ∷ note 0 63 30 500 ∷ [])
unfolding time
struck_early = refl

struck_early_again : with_strum 30 (take_of (note 0 63 0 500 ∷ note 0 60 30 500 ∷ note 0 63 30 500 ∷ []))
    ≡ take_of (note 0 60 15 500 ∷ note 0 63 15 500 ∷ note 0 63 30 500 ∷ [])
unfolding time
struck_early_again = refl

-- drums are not strummed
drums : with_strum 100 (take_of (note 9 48 100 960 ∷ note 9 52 124 960 ∷ note 9 55 149 960 ∷ []))
    ≡ take_of (note 9 48 100 960 ∷ note 9 52 124 960 ∷ note 9 55 149 960 ∷ [])
unfolding time
drums = refl

-- a strum is of one channel
two_channels : with_strum 40 (take_of (note 0 48 0 500 ∷ note 0 52 30 500 ∷ note 1 60 10 500 ∷ []))
    ≡ take_of (note 0 48 15 500 ∷ note 0 52 15 500 ∷ note 1 60 10 500 ∷ [])
unfolding time
two_channels = refl

-- in a quicker tempo 25 ticks are 24 ms
changed_tempo : with_strum 24 (record {
  division = 500;
  notes = roll;
  tempos = record { tick = 0; micros = 500000 } ∷ record { tick = 124; micros = 480000 } ∷ [];
  key_marks = [];
  signatures = [];
}) ≡ record {
  division = 500;
  notes = note 0 48 135 960 ∷ note 0 52 135 960 ∷ note 0 55 135 960 ∷ note 0 60 135 960 ∷ [];
  tempos = record { tick = 0; micros = 500000 } ∷ record { tick = 124; micros = 480000 } ∷ [];
  key_marks = [];
  signatures = [];
}
unfolding time
changed_tempo = refl

-- rolled down
rolled_down : with_strum 30 (take_of (note 0 67 0 900 ∷ note 0 64 20 900 ∷ note 0 60 40 900 ∷ []))
    ≡ take_of (note 0 60 20 900 ∷ note 0 64 20 900 ∷ note 0 67 20 900 ∷ [])
unfolding time
rolled_down = refl

-- a strum is put together before the upbeat is taken
with_an_upbeat : prepared (record no_options {
  strum = Some 25;
  meter = Some (record { num = 2; den = 4 });
  upbeat = Some (record { num = 1; den = 4 });
}) (take_of roll) ≡ Ok (record {
  division = 500;
  notes = note 0 48 500 1325 ∷ note 0 52 500 1325 ∷ note 0 55 500 1325 ∷ note 0 60 500 1325 ∷ [];
  tempos = [];
  key_marks = [];
  signatures = record { tick = 0; num = 2; dd = 2 } ∷ [];
})
unfolding time
with_an_upbeat = refl
