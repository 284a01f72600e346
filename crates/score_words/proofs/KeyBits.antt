-- A key is in a set where its bit is one.
use Rattle.std.proofs.Common.{◌≡◌, ◌↔◌, ℕ, zero, suc, ◌+◌, ◌-◌, ◌*◌, ◌^◌, ◌<◌, ◌≤◌, ◌==◌, Bool, true, false, [], ◌∷◌, length, refl, sym, ap, ◌∙◌, arith}
use Rattle.std.specs.Prelude.{IsTrue, filter, if◌then◌else◌}
use Rattle.std.specs.Int.{IsBitSet, bit_at}
use Rattle.std.specs.List.{range_with_len}
use Rattle.std.proofs.lemmas.Nat.Bits.{and_pow, bit_at-lt}
use Rattle.rhythm_base.proofs.KeySets.{bit_clear}
use Rattle.score_words.specs.Keys.{keys_onward, rising_keys}

pub bit_set : (keys k : ℕ) → IsBitSet keys k → bit_at keys k ≡ 1
bit_set keys k set = go (bit_at keys k) refl (bit_at-lt keys k)
  where
    go : (b : ℕ) → bit_at keys k ≡ b → b < 2 → b ≡ 1
    go zero e lt = absurd (set (and_pow keys k ∙ ap (λ x. x * 2 ^ k) e ∙ omega arith))
    go (suc b) e lt = omega arith

pub has_is : (b : Bool) (keys k : ℕ) → IsTrue b ↔ IsBitSet keys k → b ≡ (bit_at keys k == 1)
has_is true keys k has = sym (ap (λ b. b == 1) (bit_set keys k (has.0 refl)))
has_is false keys k has = sym (ap (λ b. b == 1) (bit_clear keys k (λ set. let t = has.1 set in absurd (cc))))

-- ---- the keys from one on

onward : (keys k : ℕ) → k < 128 → keys_onward keys k ≡ (if bit_at keys k == 1 then k ∷ keys_onward keys (k + 1) else keys_onward keys (k + 1))
onward keys k within = let e : 128 - k ≡ suc (128 - (k + 1)) = omega arith in rw e refl

pub key_there : (keys k : ℕ) → k < 128 → (bit_at keys k == 1) ≡ true → keys_onward keys k ≡ k ∷ keys_onward keys (k + 1)
key_there keys k within there = onward keys k within ∙ rw there refl

pub key_absent : (keys k : ℕ) → k < 128 → (bit_at keys k == 1) ≡ false → keys_onward keys k ≡ keys_onward keys (k + 1)
key_absent keys k within absent = onward keys k within ∙ rw absent refl

-- no key is below the lowest
from_lowest : (keys low : ℕ) → low ≤ 128 → ((k : ℕ) → k < low → bit_at keys k ≡ 0) → keys_onward keys low ≡ keys_onward keys 0
from_lowest keys zero few none = refl
from_lowest keys (suc low) few none =
    let next : suc low ≡ low + 1 = omega arith in
    let clear : bit_at keys low ≡ 0 = none low (omega arith) in
    ap (keys_onward keys) next ∙ sym (key_absent keys low (omega (arith, few)) (ap (λ b. b == 1) clear)) ∙ from_lowest keys low (omega (arith, few)) (λ k lt. none k (omega (arith, lt)))

pub all_onward : (keys low : ℕ) → low ≤ 128 → ((k : ℕ) → k < low → bit_at keys k ≡ 0) → keys_onward keys low ≡ rising_keys keys
unfolding rising_keys
all_onward keys low few none = from_lowest keys low few none

-- nor is one from a key on above which there is none
pub none_onward : (keys k : ℕ) → ((j : ℕ) → k ≤ j → bit_at keys j ≡ 0) → keys_onward keys k ≡ []
none_onward keys k none = go (128 - k) k none
  where
    go : (n k : ℕ) → ((j : ℕ) → k ≤ j → bit_at keys j ≡ 0) → filter (λ j. bit_at keys j == 1) (range_with_len k n) ≡ []
    go zero k none = refl
    go (suc n) k none = rw (none k (omega arith)) (go n (k + 1) (λ j le. none j (omega (arith, le))))

-- ---- there are 128 at most

few_of : (keys k n : ℕ) → length (filter (λ j. bit_at keys j == 1) (range_with_len k n)) ≤ n
few_of keys k zero = omega arith
few_of keys k (suc n) = go (bit_at keys k == 1) (few_of keys (k + 1) n)
  where
    go : (b : Bool) → length (filter (λ j. bit_at keys j == 1) (range_with_len (k + 1) n)) ≤ n
        → length (if b then k ∷ filter (λ j. bit_at keys j == 1) (range_with_len (k + 1) n) else filter (λ j. bit_at keys j == 1) (range_with_len (k + 1) n)) ≤ suc n
    go true few = omega (arith, few)
    go false few = omega (arith, few)

pub rising_few : (keys : ℕ) → length (rising_keys keys) ≤ 128
unfolding rising_keys
rising_few keys = few_of keys 0 128
