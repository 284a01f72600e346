-- The lowest and the highest key of a set, by the zeros below and above them.
use Rattle.std.proofs.Common.{◌≡◌, ℕ, zero, suc, ◌+◌, ◌-◌, ◌*◌, ◌<◌, ◌≤◌, ◌/◌, ◌^◌, refl, subst, ◌∙◌, arith}
use lib.Count.{count_trailing_zeros}
use Rattle.std.specs.Int.{bit_at, trailing_zeros, leading_zeros, w128}
use Rattle.std.proofs.lemmas.Nat.{leading_length}
use Rattle.std.proofs.lemmas.Nat.Bits.{bit_at-suc, bit_at-trailing_zeros, bit_at-zero, bit_at_above}
use Rattle.std.proofs.Math.Nat.{pow-suc}

pub clear_below : (n k : ℕ) → n < 2 ^ 128 → k < trailing_zeros w128 n → bit_at n k ≡ 0
clear_below zero k fits below = bit_at-zero k
clear_below (suc n) k fits below = (bit_at-trailing_zeros w128 (suc n) (omega arith) fits).2 k below

pub lowest_set : (n : ℕ) → n < 2 ^ 128 → trailing_zeros w128 n < 128 → bit_at n (trailing_zeros w128 n) ≡ 1
unfolding count_trailing_zeros
lowest_set zero fits within = let all : trailing_zeros w128 0 ≡ 128 = refl in absurd (omega (arith, all, within))
lowest_set (suc n) fits within = (bit_at-trailing_zeros w128 (suc n) (omega arith) fits).1

pub clear_above : (n k : ℕ) → n < 2 ^ 128 → 128 - leading_zeros w128 n ≤ k → bit_at n k ≡ 0
clear_above n k fits above =
    let top = leading_length 128 n fits in
    bit_at_above n top.0 k top.2 (omega (arith, top.1, above))

-- a number of k + 1 bits has its highest bit
top_bit : (n k : ℕ) → n < 2 ^ suc k → 2 ^ suc k ≤ 2 * n + 1 → bit_at n k ≡ 1
top_bit n zero few some = omega (arith, few, some)
top_bit n (suc k) few some =
    let half = top_bit (n / 2) k (omega (arith, few, pow-suc 2 (suc k))) (omega (arith, some, pow-suc 2 (suc k), pow-suc 2 k)) in
    bit_at-suc n k ∙ half

pub highest_set : (n : ℕ) → n < 2 ^ 128 → 0 < 128 - leading_zeros w128 n → bit_at n (128 - leading_zeros w128 n - 1) ≡ 1
highest_set n fits some = go (leading_length 128 n fits).0 (leading_length 128 n fits).1 (leading_length 128 n fits).2 (leading_length 128 n fits).3
  where
    go : (m : ℕ) → leading_zeros w128 n + m ≡ 128 → n < 2 ^ m → 2 ^ m ≤ 2 * n + 1 → bit_at n (128 - leading_zeros w128 n - 1) ≡ 1
    go zero sum few much = absurd (omega (arith, sum, some))
    go (suc m) sum few much =
        let e : m ≡ 128 - leading_zeros w128 n - 1 = omega (arith, sum) in
        subst (λ i. bit_at n i ≡ 1) e (top_bit n m few much)
