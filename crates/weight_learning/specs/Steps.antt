-- Logarithms in 64ths of a bit.
use Rattle.std.specs.Prelude.{◌≡◌, ℕ, zero, suc, ◌*◌, ◌^◌, ◌≤◌, Bool, true, false, nat_le, if◌then◌else◌, List}
use Rattle.std.specs.List.Sorted.{IsPartitionPoint}

-- the greatest number up to `most` that passes, 0 where none does
abbrev pub greatest_up_to : (ℕ → Bool) → ℕ → ℕ
greatest_up_to p zero = 0
greatest_up_to p (suc most) = if p (suc most) then suc most else greatest_up_to p most

-- 64 times the binary logarithm of a number from 1 to 2 ^ 40 - 1, rounded down: the greatest k with 2 ^ k ≤ n ^ 64
unfoldable pub steps : ℕ → ℕ
steps n = greatest_up_to (λ k. nat_le (2 ^ k) (n ^ 64)) (64 * 40)

-- k is the greatest number with 2 ^ k ≤ n ^ 64
pub record IsLogarithm (n k : ℕ) : Type 0 where
  pub reached : 2 ^ k ≤ n ^ 64
  pub greatest : (j : ℕ) → 2 ^ j ≤ n ^ 64 → j ≤ k

-- of rising numbers the first so many are at most x, and the others are not
abbrev pub AreUpTo : ℕ → List ℕ → ℕ → Type 0
AreUpTo x numbers count = IsPartitionPoint (λ n. nat_le n x ≡ true) (λ n. nat_le n x ≡ false) numbers count
