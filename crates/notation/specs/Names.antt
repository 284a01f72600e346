-- The names of pitches, by the line of fifths.
use Rattle.std.specs.Prelude.{◌≡◌, ℕ, ℤ, pos, negsuc, ◌+ℤ◌, ◌-ℤ◌, ◌*ℤ◌, ◌+◌, ◌-◌, ◌*◌, ◌/◌, ◌%◌, ◌==◌, ◌<◌, ◌≤◌, [], ◌∷◌, IfSome, Option, Some, None, find, slice_index_or, unwrap_or}
use Rattle.std.specs.List.{range_with_len}
use Rattle.derivation.specs.Score.{IsKeySignature}
use Rattle.notation.specs.declared.names.Alteration.{Alteration}
use Rattle.notation.specs.declared.names.Alteration.TheVariants.{DoubleFlat, Flat, Natural, Sharp, DoubleSharp}
use Rattle.notation.specs.declared.names.Letter.{Letter}
use Rattle.notation.specs.declared.names.Letter.TheVariants.{C, D, E, F, G, A, B}
use Rattle.notation.specs.declared.names.PitchName.{PitchName}

-- ---- the line of fifths: F C G D A E B with two flats each, then with one, with none, with one sharp, with two. A name stands there at
-- a place, a number from 0 on

abbrev pub letter_at : ℕ → Letter
letter_at place = slice_index_or (F ∷ C ∷ G ∷ D ∷ A ∷ E ∷ B ∷ []) (place % 7) B

abbrev pub alteration_at : ℕ → Alteration
alteration_at place = slice_index_or (DoubleFlat ∷ Flat ∷ Natural ∷ Sharp ∷ []) (place / 7) DoubleSharp

-- the key of an octave, 0 for C to 11 for B, that it names: F with two flats is 3, and each name is a fifth, 7 keys, above the one before
abbrev pub pitch_class : ℕ → ℕ
pitch_class place = (7 * place + 3) % 12

-- ---- the window of a key signature: the tonic of its major key, three names below it, and eight above. Without a signature it is that of C major

abbrev pub tonic : Option ℤ → ℕ
tonic None = 15
tonic (Some (pos sharps)) = 15 + sharps
tonic (Some (negsuc flats)) = 14 - flats

abbrev pub lowest_place : Option ℤ → ℕ
lowest_place sf = tonic sf - 3

-- the first of twelve places from one on that has the key
unfoldable pub first_place : ℕ → ℕ → Option ℕ
first_place key lowest = find (λ place. pitch_class place == key % 12) (range_with_len lowest 12)

-- the place in the window of a key: there is exactly one
abbrev pub place_of : Option ℤ → ℕ → ℕ
place_of sf key = unwrap_or (first_place key (lowest_place sf)) (lowest_place sf)

-- ---- the key that a name says

abbrev pub letter_key : Letter → ℕ
letter_key C = 0
letter_key D = 2
letter_key E = 4
letter_key F = 5
letter_key G = 7
letter_key A = 9
letter_key B = 11

abbrev pub raised_by : Alteration → ℤ
raised_by DoubleFlat = negsuc 1
raised_by Flat = negsuc 0
raised_by Natural = pos 0
raised_by Sharp = pos 1
raised_by DoubleSharp = pos 2

-- the octave of middle C, key 60, is 4; and it is that of the letter, so B sharp below middle C is of octave 3
abbrev pub named_key : PitchName → ℤ
named_key name = pos (letter_key name.letter) +ℤ raised_by name.alteration +ℤ (pos 12 *ℤ (name.octave +ℤ pos 1))

-- ---- the name of a key

-- how many keys the name at a place is above the C of its octave with two flats
abbrev pub above_lowest : ℕ → ℕ
above_lowest place = letter_key (letter_at place) + place / 7

abbrev pub octave_of : ℕ → ℕ → ℤ
octave_of key place = pos ((key + 26 - above_lowest place) / 12) -ℤ pos 3

abbrev pub name_at : ℕ → ℕ → PitchName
name_at key place = record { letter = letter_at place; alteration = alteration_at place; octave = octave_of key place }

abbrev pub pitch_name : Option ℤ → ℕ → PitchName
pitch_name sf key = name_at key (place_of sf key)

-- a name in the window that says the key
pub record IsName (sf : Option ℤ) (key : ℕ) (name : PitchName) : Type 0 where
  pub place : ℕ
  pub low : lowest_place sf ≤ place
  pub high : place < lowest_place sf + 12
  pub letter : name.letter ≡ letter_at place
  pub alteration : name.alteration ≡ alteration_at place
  pub key_is : named_key name ≡ pos key

-- ---- each key has exactly one name in the window of a key signature

abbrev pub NamesAreOne : Type 0
NamesAreOne =
    (sf : Option ℤ) (key : ℕ) → IfSome sf IsKeySignature → key < 128
    → IsName sf key (pitch_name sf key) × ((other : PitchName) → IsName sf key other → other ≡ pitch_name sf key)
