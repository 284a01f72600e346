-- What of a bar differs from the bar before, and what is said of it; before the first bar there is none, so all differs.
use Rattle.std.specs.Prelude.{ℕ, ℤ, pos, negsuc, ◌+◌, ◌*◌, ◌/◌, Bool, true, false, ◌&&◌, ◌==◌, Option, Some, None}
use Rattle.derivation.specs.declared.score.ScoreBar.{ScoreBar}

-- ---- keys

-- black keys are flats where the key signature has flats
abbrev pub has_flats : Option ℤ → Bool
has_flats None = false
has_flats (Some (pos n)) = false
has_flats (Some (negsuc n)) = true

abbrev pub same_sf : ℤ → ℤ → Bool
same_sf (pos m) (pos n) = m == n
same_sf (pos m) (negsuc n) = false
same_sf (negsuc m) (pos n) = false
same_sf (negsuc m) (negsuc n) = m == n

abbrev pub same_key : Option ℤ → ℤ → Bool
same_key None sf = false
same_key (Some before) sf = same_sf before sf

abbrev pub key_before : Option ScoreBar → Option ℤ
key_before None = None
key_before (Some before) = before.sf

-- ---- signatures

abbrev pub same_signature : Option ScoreBar → ScoreBar → Bool
same_signature None bar = false
same_signature (Some before) bar = (before.num == bar.num) && (before.den == bar.den)

-- ---- tempos

-- quarter notes of a minute, rounded, halves up
abbrev pub quarters_of_minute : ℕ → ℕ
quarters_of_minute tempo = (120000000 + tempo) / (2 * tempo)

-- a tempo that is rounded to the same number has not changed
abbrev pub same_tempo : Option ScoreBar → ScoreBar → Bool
same_tempo None bar = false
same_tempo (Some before) bar = quarters_of_minute before.tempo == quarters_of_minute bar.tempo
