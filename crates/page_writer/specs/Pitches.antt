-- Pitches in LilyPond: the Dutch name and its octave; and the pitches of a chord.
use Rattle.std.specs.Prelude.{ℕ, ℤ, pos, negsuc, ◌+◌, ◌-◌, nat_le, if◌then◌else◌, List, [], ◌∷◌, ◌++◌, Option, codes, map, replicate}
use Rattle.std.specs.List.{join_with_byte}
use Rattle.notation.specs.declared.names.Alteration.{Alteration}
use Rattle.notation.specs.declared.names.Alteration.TheVariants.{DoubleFlat, Flat, Natural, Sharp, DoubleSharp}
use Rattle.notation.specs.declared.names.Letter.{Letter}
use Rattle.notation.specs.declared.names.Letter.TheVariants.{C, D, E, F, G, A, B}
use Rattle.notation.specs.declared.names.PitchName.{PitchName}
use Rattle.notation.specs.Names.{pitch_name}
use Rattle.score_words.specs.Keys.{rising_keys}

abbrev pub letter_text : Letter → List ℕ
letter_text C = codes "c"
letter_text D = codes "d"
letter_text E = codes "e"
letter_text F = codes "f"
letter_text G = codes "g"
letter_text A = codes "a"
letter_text B = codes "b"

abbrev pub alteration_text : Alteration → List ℕ
alteration_text DoubleFlat = codes "eses"
alteration_text Flat = codes "es"
alteration_text Natural = []
alteration_text Sharp = codes "is"
alteration_text DoubleSharp = codes "isis"

-- the octave below the one of middle C has no mark, each octave above it an apostrophe more, and each below it a comma more
abbrev pub octave_marks : ℤ → List ℕ
octave_marks (pos octave) = if nat_le 3 octave then replicate (octave - 3) 39 else replicate (3 - octave) 44
octave_marks (negsuc below) = replicate (4 + below) 44

abbrev pub name_text : PitchName → List ℕ
name_text name = letter_text name.letter ++ alteration_text name.alteration ++ octave_marks name.octave

-- the pitch of a key, where a key signature is in force or none
abbrev pub page_pitch : Option ℤ → ℕ → List ℕ
page_pitch sf key = name_text (pitch_name sf key)

-- those of the keys of a chord, by rising key
abbrev pub page_pitches : Option ℤ → ℕ → List (List ℕ)
page_pitches sf keys = map (page_pitch sf) (rising_keys keys)

-- one pitch stands alone, several between angles with a space between two
abbrev pub pitches_text : List (List ℕ) → List ℕ
pitches_text (pitch ∷ []) = pitch
pitches_text pitches = codes "<" ++ join_with_byte 32 pitches ++ codes ">"

-- the pitches of a chord, by rising key
abbrev pub page_chord : Option ℤ → ℕ → List ℕ
page_chord sf keys = pitches_text (page_pitches sf keys)
