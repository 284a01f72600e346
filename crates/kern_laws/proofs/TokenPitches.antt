-- The bytes of pitches.
use Rattle.std.proofs.Common.{◌≡◌, ℕ, zero, suc, ◌<◌, ◌==◌, ◌&&◌, Bool, true, false, List, [], ◌∷◌, ◌++◌, refl, subst, arith}
use Rattle.std.specs.List.{list_all, prefix_len}
use Rattle.std.proofs.lemmas.Bool.{and_parts}
use Rattle.std.proofs.lemmas.Bool.Decides.{nat_tests}
use Rattle.durations.specs.Pitch.{pitch}
use Rattle.kern_reader.specs.Tokens.{is_pitch_byte, is_value_byte}
use Rattle.text_words.proofs.TextTests.{all_weaker, is_graphic}

-- what holds of the first n numbers
abbrev pub holds_below : (ℕ → Bool) → ℕ → Bool
holds_below p zero = true
holds_below p (suc n) = p n && holds_below p n

pub below_at : (p : ℕ → Bool) (n k : ℕ) → holds_below p n ≡ true → k < n → p k ≡ true
below_at p zero k all within = absurd (omega (arith, within))
below_at p (suc n) k all within = at (k == n) refl (and_parts (p n) (holds_below p n) all) (below_at p n k)
  where
    at : (b : Bool) → (k == n) ≡ b → (p n ≡ true) × (holds_below p n ≡ true) → (holds_below p n ≡ true → k < n → p k ≡ true) → p k ≡ true
    at true e parts rest = let same : n ≡ k = grind (arith, nat_tests) in subst (λ j. p j ≡ true) same parts.0
    at false e parts rest = let less : k < n = grind (arith, nat_tests) in rest parts.1 less

-- ---- a pitch begins with a letter, and all its bytes are those of a pitch

abbrev pub begins_pitch : List ℕ → Bool
begins_pitch [] = false
begins_pitch (b ∷ text) = is_pitch_byte b

abbrev is_pitch : List ℕ → Bool
is_pitch text = begins_pitch text && list_all is_pitch_byte text

with_sharps : holds_below (λ k. is_pitch (pitch false k)) 128 ≡ true
with_sharps = refl

with_flats : holds_below (λ k. is_pitch (pitch true k)) 128 ≡ true
with_flats = refl

each_pitch : (flats : Bool) (k : ℕ) → k < 128 → is_pitch (pitch flats k) ≡ true
each_pitch true k within = below_at (λ k. is_pitch (pitch true k)) 128 k with_flats within
each_pitch false k within = below_at (λ k. is_pitch (pitch false k)) 128 k with_sharps within

pub pitch_begins : (flats : Bool) (k : ℕ) → k < 128 → begins_pitch (pitch flats k) ≡ true
pitch_begins flats k within = (and_parts (begins_pitch (pitch flats k)) (list_all is_pitch_byte (pitch flats k)) (each_pitch flats k within)).0

pub pitch_bytes : (flats : Bool) (k : ℕ) → k < 128 → list_all is_pitch_byte (pitch flats k) ≡ true
pitch_bytes flats k within = (and_parts (begins_pitch (pitch flats k)) (list_all is_pitch_byte (pitch flats k)) (each_pitch flats k within)).1

-- ---- bytes of pitches

-- a byte of a pitch is none of a value, and not an r
pub pitch_no_value : (b : ℕ) → is_pitch_byte b ≡ true → is_value_byte b ≡ false
pitch_no_value b h = grind (arith, nat_tests)

pub pitch_no_rest : (b : ℕ) → is_pitch_byte b ≡ true → (b == 114) ≡ false
pitch_no_rest b h = grind (arith, nat_tests)

pub pitch_byte_graphic : (b : ℕ) → is_pitch_byte b ≡ true → is_graphic b ≡ true
pitch_byte_graphic b h = grind (arith, nat_tests)

pub pitch_graphic : (flats : Bool) (k : ℕ) → k < 128 → list_all is_graphic (pitch flats k) ≡ true
pitch_graphic flats k within = all_weaker is_pitch_byte is_graphic (pitch flats k) pitch_byte_graphic (pitch_bytes flats k within)

-- a value ends where a pitch begins
pub value_ends : (text more : List ℕ) → begins_pitch text ≡ true → prefix_len is_value_byte (text ++ more) ≡ 0
value_ends [] more h = cc
value_ends (b ∷ text) more h = let no = pitch_no_value b h in rw no refl
