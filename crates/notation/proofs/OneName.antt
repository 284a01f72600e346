-- A key has one name in the window of a key signature.
use Rattle.std.proofs.Common.{◌≡◌, ℕ, suc, zero, ◌+◌, ◌-◌, ◌/◌, ◌%◌, ◌==◌, ◌<◌, ◌≤◌, Bool, true, false, [], ◌∷◌, refl, sym, ap, ◌∙◌, subst, arith}
use Rattle.std.specs.Prelude.{ℤ, pos, negsuc, ◌+ℤ◌, ◌-ℤ◌, ◌*ℤ◌, ◌&&◌, IfSome, nat_le, nat_lt, Option, Some, None, slice_index_or, unwrap_or}
use Rattle.std.proofs.lemmas.Bool.{and_parts}
use Rattle.std.proofs.lemmas.Bool.Decides.{nat_tests}
use Rattle.std.proofs.lemmas.Int.{ints}
use Rattle.rhythm_base.proofs.NumbersBelow.{all_below, one_below}
use Rattle.derivation.specs.Score.{IsKeySignature}
use Rattle.notation.specs.declared.names.Alteration.TheVariants.{DoubleFlat, Flat, Natural, Sharp, DoubleSharp}
use Rattle.notation.specs.declared.names.PitchName.{PitchName}
use Rattle.notation.specs.Names.{IsName, NamesAreOne, above_lowest, alteration_at, first_place, letter_at, letter_key, lowest_place, name_at, named_key, pitch_class, pitch_name, place_of, raised_by}

-- ---- the window of a signature

window_range : (sf : Option ℤ) → IfSome sf IsKeySignature → (5 ≤ lowest_place sf) × (lowest_place sf ≤ 19)
window_range None is = (omega arith, omega arith)
window_range (Some (pos n)) is = (omega (arith, ints, is.low, is.high), omega (arith, ints, is.low, is.high))
window_range (Some (negsuc n)) is = (omega (arith, ints, is.low, is.high), omega (arith, ints, is.low, is.high))

-- ---- a name there is: by computing, for all windows and keys

abbrev is_number : ℤ → ℕ → Bool
is_number (pos m) n = m == n
is_number (negsuc m) n = false

number_is : (z : ℤ) (n : ℕ) → is_number z n ≡ true → z ≡ pos n
number_is (pos m) n test = let e : m ≡ n = grind (arith, nat_tests) in ap pos e
number_is (negsuc m) n test = absurd (cc)

abbrev found_place : ℕ → ℕ → ℕ
found_place lowest key = unwrap_or (first_place key lowest) lowest

abbrev is_right : ℕ → ℕ → Bool
is_right lowest key =
    is_number (named_key (name_at key (found_place lowest key))) key
    && (nat_le lowest (found_place lowest key) && nat_lt (found_place lowest key) (lowest + 12))

all_right : all_below (λ l. all_below (is_right (l + 5)) 128) 15 ≡ true
unfolding first_place
all_right = refl

one_right : (lowest key : ℕ) → 5 ≤ lowest → lowest ≤ 19 → key < 128 → is_right lowest key ≡ true
one_right lowest key low high few =
    let e : lowest - 5 + 5 ≡ lowest = omega (arith, low) in
    ap (λ l. is_right l key) (sym e)
    ∙ one_below (is_right (lowest - 5 + 5)) 128 key (one_below (λ l. all_below (is_right (l + 5)) 128) 15 (lowest - 5) all_right (omega (arith, low, high))) few

pub name_is : (sf : Option ℤ) (key : ℕ) → IfSome sf IsKeySignature → key < 128 → IsName sf key (pitch_name sf key)
name_is sf key is few =
    let range = window_range sf is in
    let lowest = lowest_place sf in
    let place = found_place lowest key in
    let right = and_parts (is_number (named_key (name_at key place)) key) (nat_le lowest place && nat_lt place (lowest + 12)) (one_right lowest key range.0 range.1 few) in
    let within = and_parts (nat_le lowest place) (nat_lt place (lowest + 12)) right.1 in
    record {
      place = place_of sf key;
      low = least lowest place within.0;
      high = less place (lowest + 12) within.1;
      letter = refl;
      alteration = refl;
      key_is = number_is (named_key (name_at key place)) key right.0;
    }
  where
    least : (m n : ℕ) → nat_le m n ≡ true → m ≤ n
    least m n test = grind (arith, nat_tests)

    less : (m n : ℕ) → nat_lt m n ≡ true → m < n
    less m n test = grind (arith, nat_tests)

-- ---- no other one

-- a fifth is 7 keys, and 12 fifths are 7 octaves
same_place : (lowest p q : ℕ) → lowest ≤ p → p < lowest + 12 → lowest ≤ q → q < lowest + 12 → pitch_class p ≡ pitch_class q → p ≡ q
same_place lowest p q a b c d e = omega arith

raised_is : (n : ℕ) → n < 5 → raised_by (slice_index_or (DoubleFlat ∷ Flat ∷ Natural ∷ Sharp ∷ []) n DoubleSharp) ≡ pos n -ℤ pos 2
raised_is zero few = refl
raised_is (suc zero) few = refl
raised_is (suc (suc zero)) few = refl
raised_is (suc (suc (suc zero))) few = refl
raised_is (suc (suc (suc (suc zero)))) few = refl
raised_is (suc (suc (suc (suc (suc n))))) few = absurd (omega (arith, few))

-- what a place says is its letter and its alteration
abbrev is_class : ℕ → Bool
is_class place = pitch_class place == (above_lowest place + 10) % 12

all_classes : all_below is_class 35 ≡ true
all_classes = refl

class_is : (place : ℕ) → place < 35 → pitch_class place ≡ (above_lowest place + 10) % 12
class_is place few = go (pitch_class place) ((above_lowest place + 10) % 12) (one_below is_class 35 place all_classes few)
  where
    go : (m n : ℕ) → (m == n) ≡ true → m ≡ n
    go m n test = grind (arith, nat_tests)

-- the key of a name, in keys above the C of its octave with two flats
key_of_name : (l n key : ℕ) (raised octave : ℤ) → raised ≡ pos n -ℤ pos 2 → pos l +ℤ raised +ℤ (pos 12 *ℤ (octave +ℤ pos 1)) ≡ pos key
    → pos (l + n + 10) +ℤ (pos 12 *ℤ octave) ≡ pos key
key_of_name l n key raised octave is e = omega (arith, ints)

key_class : (above key : ℕ) (octave : ℤ) → pos (above + 10) +ℤ (pos 12 *ℤ octave) ≡ pos key → (above + 10) % 12 ≡ key % 12
key_class above key (pos n) e = omega (arith, ints)
key_class above key (negsuc n) e = omega (arith, ints)

same_octave : (above key : ℕ) (a b : ℤ) → pos (above + 10) +ℤ (pos 12 *ℤ a) ≡ pos key → pos (above + 10) +ℤ (pos 12 *ℤ b) ≡ pos key → a ≡ b
same_octave above key a b e f = omega (arith, ints)

names_agree : (sf : Option ℤ) (key : ℕ) (a b : PitchName) → IfSome sf IsKeySignature → IsName sf key a → IsName sf key b → a ≡ b
names_agree sf key a b is h k =
    let range = window_range sf is in
    let few_h : h.place < 35 = omega (arith, range.1, h.high) in
    let few_k : k.place < 35 = omega (arith, range.1, k.high) in
    let first = said a h.place few_h h.letter h.alteration h.key_is in
    let second = said b k.place few_k k.letter k.alteration k.key_is in
    let class_h = class_is h.place few_h ∙ key_class (above_lowest h.place) key a.octave first in
    let class_k = class_is k.place few_k ∙ key_class (above_lowest k.place) key b.octave second in
    let same = same_place (lowest_place sf) h.place k.place h.low h.high k.low k.high (class_h ∙ sym class_k) in
    let octave = same_octave (above_lowest k.place) key a.octave b.octave
    (subst (λ p. pos (above_lowest p + 10) +ℤ (pos 12 *ℤ a.octave) ≡ pos key) same first) second in
    let letter = h.letter ∙ ap letter_at same ∙ sym k.letter in
    let alteration = h.alteration ∙ ap alteration_at same ∙ sym k.alteration in
    λ i. record { letter = letter i; alteration = alteration i; octave = octave i }
  where
    said : (name : PitchName) (place : ℕ) → place < 35 → name.letter ≡ letter_at place → name.alteration ≡ alteration_at place → named_key name ≡ pos key
        → pos (above_lowest place + 10) +ℤ (pos 12 *ℤ name.octave) ≡ pos key
    said name place few letter alteration e =
        let raised : raised_by name.alteration ≡ pos (place / 7) -ℤ pos 2 = ap raised_by alteration ∙ raised_is (place / 7) (omega (arith, few)) in
        subst (λ l. pos (l + place / 7 + 10) +ℤ (pos 12 *ℤ name.octave) ≡ pos key) (ap letter_key letter)
        (key_of_name (letter_key name.letter) (place / 7) key (raised_by name.alteration) name.octave raised e)

pub names_one : NamesAreOne
names_one sf key is few = (name_is sf key is few, λ other named. names_agree sf key other (pitch_name sf key) is named (name_is sf key is few))
