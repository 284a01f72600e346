-- Pitches in **kern: a letter, by its octave repeated and in lower or upper case, and an accidental.
use Rattle.std.specs.Prelude.{ℕ, ◌-◌, ◌/◌, ◌%◌, Bool, ◌||◌, ◌==◌, nat_le, if◌then◌else◌, List, [], ◌++◌, codes, replicate, slice_index}

-- the white key of each of the twelve keys of an octave that its name takes: the one below where black keys are sharps, the one above where they are flats
abbrev pub letters : Bool → List ℕ
letters flats = if flats then codes "cddeefggaabb" else codes "ccddeffggaab"

abbrev pub is_black : ℕ → Bool
is_black n = (n == 1) || ((n == 3) || ((n == 6) || ((n == 8) || (n == 10))))

abbrev pub accidental : Bool → ℕ → List ℕ
accidental flats n = if is_black n then (if flats then codes "-" else codes "#") else []

-- the letter of key 60 and the octave from there stands once in lower case, of the octave above twice, and so on; that of the octave below once in upper case, of the next below twice, and so on
abbrev pub octave_letters : ℕ → ℕ → List ℕ
octave_letters letter k = if nat_le 5 (k / 12) then replicate (k / 12 - 4) letter else replicate (5 - k / 12) (letter - 32)

-- the pitch of a key, with flats or with sharps
abbrev pub pitch : Bool → ℕ → List ℕ
pitch flats k = octave_letters (slice_index (letters flats) (k % 12)) k ++ accidental flats (k % 12)
