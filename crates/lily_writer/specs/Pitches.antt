-- Pitches in LilyPond: the Dutch name of a key, and its octave; and the pitches of a chord.
use Rattle.std.specs.Prelude.{ℕ, ◌-◌, ◌/◌, ◌%◌, ◌==◌, Bool, nat_le, if◌then◌else◌, List, [], ◌∷◌, ◌++◌, codes, map, replicate, slice_index_or}
use Rattle.std.specs.List.{join_with_byte, slice_split}
use Rattle.score_words.specs.Keys.{rising_keys}

-- what stands between the spaces of a text
abbrev pub words : List ℕ → List (List ℕ)
words text = slice_split (λ b. b == 32) text

-- the names of the twelve keys of an octave, where black keys are flats or sharps
abbrev pub names : Bool → List (List ℕ)
names flats = words (if flats then codes "c des d ees e f ges g aes a bes b" else codes "c cis d dis e f fis g gis a ais b")

-- the octave below the one of key 60 has no mark, each octave above it an apostrophe more, and each below it a comma more
abbrev pub octave_marks : ℕ → List ℕ
octave_marks octave = if nat_le 4 octave then replicate (octave - 4) 39 else replicate (4 - octave) 44

-- the pitch of a key, with flats or with sharps
abbrev pub lily_pitch : Bool → ℕ → List ℕ
lily_pitch flats k = slice_index_or (names flats) (k % 12) [] ++ octave_marks (k / 12)

-- those of the keys of a chord, by rising key
abbrev pub lily_pitches : Bool → ℕ → List (List ℕ)
lily_pitches flats keys = map (lily_pitch flats) (rising_keys keys)

-- one pitch stands alone, several between angles with a space between two
abbrev pub pitches_text : List (List ℕ) → List ℕ
pitches_text (lily_pitch ∷ []) = lily_pitch
pitches_text pitches = codes "<" ++ join_with_byte 32 pitches ++ codes ">"

-- the pitches of a chord, by rising key
abbrev pub lily_chord : Bool → ℕ → List ℕ
lily_chord flats keys = pitches_text (lily_pitches flats keys)
