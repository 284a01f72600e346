-- The first multiple that is not below a number, and the last one that is not above it.
use Rattle.std.proofs.Common.{◌≡◌, ℕ, ◌+◌, ◌*◌, ◌<◌, ◌≤◌, arith, inl, inr}
use Rattle.std.proofs.Math.Nat.{mul-le-mul_right}
use Rattle.std.proofs.lemmas.Bool.{cases_lt}

pub first-multiple : (l x n m : ℕ) → x ≤ n * l → n * l < x + l → (n ≤ m → x ≤ m * l) × (x ≤ m * l → n ≤ m)
first-multiple l x n m above near = (
  λ h. let wider : n * l ≤ m * l = mul-le-mul_right l h in omega (arith, wider, above),
  λ h. elim (cases_lt m n) [
    | inr le ↦ le
    | inl less ↦
        let next : (m + 1) * l ≤ n * l = mul-le-mul_right l (omega (arith, less)) in
        let sum : (m + 1) * l ≡ m * l + l = grind arith in
        absurd (omega (arith, next, sum, near, h))
  ],
)

pub last-multiple : (l x n m : ℕ) → n * l ≤ x → x < n * l + l → (m ≤ n → m * l ≤ x) × (m * l ≤ x → m ≤ n)
last-multiple l x n m below near = (
  λ h. let wider : m * l ≤ n * l = mul-le-mul_right l h in omega (arith, wider, below),
  λ h. elim (cases_lt n m) [
    | inr le ↦ le
    | inl less ↦
        let next : (n + 1) * l ≤ m * l = mul-le-mul_right l (omega (arith, less)) in
        let sum : (n + 1) * l ≡ n * l + l = grind arith in
        absurd (omega (arith, next, sum, near, h))
  ],
)

-- halves of units
pub twice : (u l : ℕ) → 2 * u * l ≡ 2 * (u * l)
twice u l = grind arith

pub twice-one : (u l : ℕ) → (2 * u + 1) * l ≡ 2 * (u * l) + l
twice-one u l = grind arith

pub twice-two : (u l : ℕ) → (2 * u + 2) * l ≡ 2 * (u * l) + 2 * l
twice-two u l = grind arith
