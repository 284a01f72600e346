-- The key that a pitch says, by the texts of its letter, of its alteration in half tones, and of its octave.
use Rattle.std.specs.Prelude.{ℕ, ◌+◌, ◌-◌, ◌*◌, ◌==◌, nat_le, if◌then◌else◌, List, [], ◌∷◌, codes, position, Option, Some, None}
use Rattle.std.specs.Str.{bytes_eq}
use Rattle.text_words.specs.Steps.{◌>>=◌}
use Rattle.text_words.specs.Numbers.{within_keys}

-- the key of a letter, 0 for C to 11 for B
abbrev pub letter_key_of : List ℕ → Option ℕ
letter_key_of (b ∷ []) =
    if b == 67 then Some 0 else if b == 68 then Some 2 else if b == 69 then Some 4 else if b == 70 then Some 5
    else if b == 71 then Some 7 else if b == 65 then Some 9 else if b == 66 then Some 11 else None
letter_key_of _ = None

-- two half tones down are 0, none of them 2, two up 4
abbrev pub alteration_of : List ℕ → Option ℕ
alteration_of text = position (bytes_eq text) (codes "-2" ∷ codes "-1" ∷ [] ∷ codes "1" ∷ codes "2" ∷ [])

-- octave -2 is 0, 9 is 11
abbrev pub octave_number : List ℕ → Option ℕ
octave_number text = position (bytes_eq text) (
    codes "-2" ∷ codes "-1" ∷ codes "0" ∷ codes "1" ∷ codes "2" ∷ codes "3" ∷ codes "4" ∷ codes "5" ∷ codes "6" ∷ codes "7" ∷ codes "8"
    ∷ codes "9" ∷ []
    )

-- middle C, key 60, is C of octave 4
unfoldable pub xml_key : List ℕ → List ℕ → List ℕ → Option ℕ
xml_key step alter octave = do
  letter ← letter_key_of step
  alteration ← alteration_of alter
  number ← octave_number octave
  if nat_le 14 (letter + alteration + 12 * number) then within_keys (letter + alteration + 12 * number - 14) else None
