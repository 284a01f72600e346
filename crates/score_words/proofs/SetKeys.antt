-- The keys of a set rise, and all of them together are the set.
use Rattle.std.proofs.Common.{◌≡◌, ℕ, zero, suc, ◌+◌, ◌*◌, ◌%◌, ◌^◌, ◌<◌, ◌≤◌, ◌==◌, Bool, true, false, List, [], ◌∷◌, ◌++◌, fold, refl, sym, ap, ◌∙◌, subst, arith, bit_and, bit_or}
use Rattle.std.specs.Prelude.{⊤, max, if◌then◌else◌}
use Rattle.std.specs.Int.{bit_at}
use Rattle.std.specs.Int.Bits.{or_add_and}
use Rattle.std.proofs.Math.Arith.{mod-mul}
use Rattle.std.proofs.Math.Nat.{mod-eq_of_lt, mod-lt, mod-one, mul_comm, pow-suc}
use Rattle.std.proofs.lemmas.Nat.{pow_pos}
use Rattle.std.proofs.lemmas.Nat.Bits.{and_pow, bit_at-lt, bit_at-zero, bit_at_above, bit_at_or, same_from_bits}
use Rattle.score_words.proofs.KeysFrom.{keys_from, rising_is}
use Rattle.score_words.specs.Keys.{rising_keys}

-- keys from a lowest one on rise, and are keys of 0 to 127
abbrev pub KeysRise : ℕ → List ℕ → Type 0
KeysRise low [] = ⊤
KeysRise low (k ∷ ks) = (low ≤ k) × (k < 128) × KeysRise (suc k) ks

pub rise_lower : (low high : ℕ) (ks : List ℕ) → low ≤ high → KeysRise high ks → KeysRise low ks
rise_lower low high [] le h = tt
rise_lower low high (k ∷ ks) le h = (omega (arith, le, h.0), h.1, h.2)

-- a set with further keys
abbrev pub set_with : ℕ → List ℕ → ℕ
set_with keys ks = fold (λ a k. bit_or a (2 ^ k)) keys ks

from_rise : (keys k n : ℕ) → k + n ≤ 128 → KeysRise k (keys_from keys k n)
from_rise keys k zero few = tt
from_rise keys k (suc n) few = at (bit_at keys k == 1) (from_rise keys (suc k) n (omega (arith, few)))
  where
    at : (b : Bool) → KeysRise (suc k) (keys_from keys (suc k) n) → KeysRise k ((if b then k ∷ [] else []) ++ keys_from keys (suc k) n)
    at true rest = (omega arith, omega (arith, few), rest)
    at false rest = rise_lower k (suc k) (keys_from keys (suc k) n) (omega arith) rest

pub keys_rise : (keys : ℕ) → KeysRise 0 (rising_keys keys)
keys_rise keys = subst (KeysRise 0) (sym (rising_is keys)) (from_rise keys 0 128 (omega arith))

-- ---- the keys of a set below one of its keys, as the number whose bits they are

mod_next : (keys k : ℕ) → keys % 2 ^ (k + 1) ≡ bit_at keys k * 2 ^ k + keys % 2 ^ k
mod_next keys k =
    let some = pow_pos k in
    let e : k + 1 ≡ suc k = omega arith in
    let double : 2 ^ suc k ≡ 2 * 2 ^ k = pow-suc 2 k ∙ mul_comm (2 ^ k) 2 in
    ap (λ n. keys % 2 ^ n) e ∙ ap (λ n. keys % n) double ∙ mod-mul keys {m = 2} {c = 2 ^ k} (omega arith) some

found_skip : (keys k : ℕ) → bit_at keys k ≡ 0 → keys % 2 ^ (k + 1) ≡ keys % 2 ^ k
found_skip keys k bit = mod_next keys k ∙ ap (λ b. b * 2 ^ k + keys % 2 ^ k) bit ∙ omega arith

found_push : (keys k : ℕ) → bit_at keys k ≡ 1 → keys % 2 ^ (k + 1) ≡ bit_or (keys % 2 ^ k) (2 ^ k)
found_push keys k bit =
    let below = keys % 2 ^ k in
    let few : below < 2 ^ k = mod-lt keys (pow_pos k) in
    let zero_times : 0 * 2 ^ k ≡ 0 = omega arith in
    let none : bit_and below (2 ^ k) ≡ 0 = and_pow below k ∙ ap (λ b. b * 2 ^ k) (bit_at_above below k k few (omega arith)) ∙ zero_times in
    let sum : bit_or below (2 ^ k) ≡ below + 2 ^ k = let e = or_add_and below (2 ^ k) in omega (arith, e, none) in
    mod_next keys k ∙ ap (λ b. b * 2 ^ k + below) bit ∙ omega arith ∙ sym sum

-- the keys below k, with those from k on
from_set : (keys k n : ℕ) → set_with (keys % 2 ^ k) (keys_from keys k n) ≡ keys % 2 ^ (k + n)
from_set keys k zero = let e : k ≡ k + zero = omega arith in ap (λ m. keys % 2 ^ m) e
from_set keys k (suc n) = at (bit_at keys k) refl (bit_at-lt keys k) (from_set keys (suc k) n)
  where
    next : k + 1 ≡ suc k
    next = omega arith

    last : suc k + n ≡ k + suc n
    last = omega arith

    at : (b : ℕ) → bit_at keys k ≡ b → b < 2 → set_with (keys % 2 ^ suc k) (keys_from keys (suc k) n) ≡ keys % 2 ^ (suc k + n)
        → set_with (keys % 2 ^ k) ((if bit_at keys k == 1 then k ∷ [] else []) ++ keys_from keys (suc k) n) ≡ keys % 2 ^ (k + suc n)
    at zero e less rest =
        ap (λ b. set_with (keys % 2 ^ k) ((if b == 1 then k ∷ [] else []) ++ keys_from keys (suc k) n)) e
        ∙ ap (λ a. set_with a (keys_from keys (suc k) n)) (sym (found_skip keys k e) ∙ ap (λ m. keys % 2 ^ m) next) ∙ rest ∙ ap
        (λ m. keys % 2 ^ m) last
    at (suc zero) e less rest =
        ap (λ b. set_with (keys % 2 ^ k) ((if b == 1 then k ∷ [] else []) ++ keys_from keys (suc k) n)) e
        ∙ ap (λ a. set_with a (keys_from keys (suc k) n)) (sym (found_push keys k e) ∙ ap (λ m. keys % 2 ^ m) next) ∙ rest ∙ ap
        (λ m. keys % 2 ^ m) last
    at (suc (suc b)) e less rest = absurd (omega (arith, less))

pub keys_set : (keys : ℕ) → keys < 2 ^ 128 → set_with 0 (rising_keys keys) ≡ keys
keys_set keys few =
    let one : 2 ^ 0 ≡ 1 = refl in
    let none : keys % 2 ^ 0 ≡ 0 = ap (λ n. keys % n) one ∙ mod-one keys in
    let all : keys % 2 ^ (0 + 128) ≡ keys = small keys few in
    ap (set_with 0) (rising_is keys) ∙ ap (λ a. set_with a (keys_from keys 0 128)) (sym none) ∙ from_set keys 0 128 ∙ all
  where
    small : (keys : ℕ) → keys < 2 ^ 128 → keys % 2 ^ 128 ≡ keys
    small keys few = mod-eq_of_lt few

-- nothing with a set is the set
pub or_none : (n : ℕ) → bit_or 0 n ≡ n
or_none n = same_from_bits (bit_or 0 n) n (λ i. bit_at_or 0 n i ∙ ap (λ b. max b (bit_at n i)) (bit_at-zero i) ∙ omega arith)
