-- The keys of a set rise, and the set is the sum of their bits.
use Rattle.std.proofs.Common.{◌≡◌, ℕ, zero, suc, ◌+◌, ◌*◌, ◌%◌, ◌^◌, ◌<◌, ◌==◌, true, List, [], ◌∷◌, ◌++◌, refl, sym, ap, ◌∙◌, arith}
use Rattle.std.specs.Prelude.{nat_lt, if◌then◌else◌}
use Rattle.std.specs.Int.{bit_at}
use Rattle.std.proofs.Math.Arith.{mod-mul}
use Rattle.std.proofs.Math.Nat.{mod-eq_of_lt, mod-one, mul_comm, pow-suc}
use Rattle.std.proofs.lemmas.Bool.{and_from}
use Rattle.std.proofs.lemmas.Bool.Decides.{nat_tests}
use Rattle.std.proofs.lemmas.List.Sums.{sum-map, sum_by-cons}
use Rattle.std.proofs.lemmas.Nat.{pow_pos}
use Rattle.std.proofs.lemmas.Nat.Bits.{bit_at-lt}
use Rattle.score_words.proofs.KeysFrom.{keys_from, rising_is}
use Rattle.score_words.specs.Keys.{rising_keys}
use Rattle.score_words.proofs.SetKeys.{KeysRise}
use Rattle.lily_writer.specs.Hearing.{key_set, heard_rise}

-- ---- they rise

pub keys_up : (low : ℕ) (ks : List ℕ) → KeysRise low ks → heard_rise ks ≡ true
keys_up low [] up = refl
keys_up low (k ∷ []) up = refl
keys_up low (k ∷ j ∷ ks) (above, few, up) =
    let less : nat_lt k j ≡ true = let next = up.0 in grind (arith, nat_tests, next) in
    and_from (nat_lt k j) (heard_rise (j ∷ ks)) less (keys_up (suc k) (j ∷ ks) up)

-- ---- their sum

set_more : (k : ℕ) (ks : List ℕ) → key_set (k ∷ ks) ≡ 2 ^ k + key_set ks
set_more k ks = sum-map (λ k. 2 ^ k) (k ∷ ks) ∙ sum_by-cons (λ k. 2 ^ k) k ks ∙ ap (λ n. 2 ^ k + n) (sym (sum-map (λ k. 2 ^ k) ks))

bit_next : (keys k : ℕ) → keys % 2 ^ suc k ≡ bit_at keys k * 2 ^ k + keys % 2 ^ k
bit_next keys k =
    let double : 2 ^ suc k ≡ 2 * 2 ^ k = pow-suc 2 k ∙ mul_comm (2 ^ k) 2 in
    ap (λ n. keys % n) double ∙ mod-mul keys {m = 2} {c = 2 ^ k} (omega arith) (pow_pos k)

-- the keys below k, with those from k on
from_sum : (keys k n : ℕ) → keys % 2 ^ k + key_set (keys_from keys k n) ≡ keys % 2 ^ (k + n)
from_sum keys k zero = let e : k ≡ k + zero = omega arith in omega arith ∙ ap (λ m. keys % 2 ^ m) e
from_sum keys k (suc n) = go (bit_at keys k) refl (bit_at-lt keys k) (from_sum keys (suc k) n)
  where
    last : suc k + n ≡ k + suc n
    last = omega arith

    go : (b : ℕ) → bit_at keys k ≡ b → b < 2 → keys % 2 ^ suc k + key_set (keys_from keys (suc k) n) ≡ keys % 2 ^ (suc k + n)
        → keys % 2 ^ k + key_set ((if bit_at keys k == 1 then k ∷ [] else []) ++ keys_from keys (suc k) n) ≡ keys % 2 ^ (k + suc n)
    go zero e less rest =
        let next = bit_next keys k ∙ ap (λ b. b * 2 ^ k + keys % 2 ^ k) e in
        ap (λ b. keys % 2 ^ k + key_set ((if b == 1 then k ∷ [] else []) ++ keys_from keys (suc k) n)) e
        ∙ omega (arith, next, rest) ∙ ap (λ m. keys % 2 ^ m) last
    go (suc zero) e less rest =
        let next = bit_next keys k ∙ ap (λ b. b * 2 ^ k + keys % 2 ^ k) e in
        let more = set_more k (keys_from keys (suc k) n) in
        ap (λ b. keys % 2 ^ k + key_set ((if b == 1 then k ∷ [] else []) ++ keys_from keys (suc k) n)) e
        ∙ omega (arith, next, rest, more) ∙ ap (λ m. keys % 2 ^ m) last
    go (suc (suc b)) e less rest = absurd (omega (arith, less))

pub keys_sum : (keys : ℕ) → keys < 2 ^ 128 → key_set (rising_keys keys) ≡ keys
keys_sum keys few =
    let one : 2 ^ 0 ≡ 1 = refl in
    let none : keys % 2 ^ 0 ≡ 0 = ap (λ n. keys % n) one ∙ mod-one keys in
    let all : keys % 2 ^ (0 + 128) ≡ keys = mod-eq_of_lt few in
    let whole = from_sum keys 0 128 in
    ap key_set (rising_is keys) ∙ omega (arith, none, all, whole)
