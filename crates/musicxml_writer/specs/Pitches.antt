-- The element of a pitch, by the name of its key.
use Rattle.std.specs.Prelude.{ℕ, ℤ, List, [], ◌++◌, codes, Option}
use Rattle.std.specs.Fmt.{signed_decimal}
use Rattle.notation.specs.declared.names.Alteration.{Alteration}
use Rattle.notation.specs.declared.names.Alteration.TheVariants.{DoubleFlat, Flat, Natural, Sharp, DoubleSharp}
use Rattle.notation.specs.declared.names.Letter.{Letter}
use Rattle.notation.specs.declared.names.Letter.TheVariants.{C, D, E, F, G, A, B}
use Rattle.notation.specs.declared.names.PitchName.{PitchName}
use Rattle.notation.specs.Names.{pitch_name}
use Rattle.musicxml_writer.specs.Elements.{element, some_element}

abbrev pub letter_text : Letter → List ℕ
letter_text C = codes "C"
letter_text D = codes "D"
letter_text E = codes "E"
letter_text F = codes "F"
letter_text G = codes "G"
letter_text A = codes "A"
letter_text B = codes "B"

-- by how many half tones a letter is raised or lowered, where it is
abbrev pub alter_text : Alteration → List ℕ
alter_text DoubleFlat = codes "-2"
alter_text Flat = codes "-1"
alter_text Natural = []
alter_text Sharp = codes "1"
alter_text DoubleSharp = codes "2"

unfoldable pub pitch_text : PitchName → List ℕ
pitch_text name = element (codes "pitch") (
    element (codes "step") (letter_text name.letter)
    ++ some_element (codes "alter") (alter_text name.alteration)
    ++ element (codes "octave") (signed_decimal name.octave)
    )

-- where a key signature is in force or none
unfoldable pub key_pitch : Option ℤ → ℕ → List ℕ
key_pitch sf key = pitch_text (pitch_name sf key)
