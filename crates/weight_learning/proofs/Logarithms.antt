-- The logarithm in 64ths of a bit.
use Rattle.std.proofs.Common.{◌≡◌, ℕ, zero, suc, ◌+◌, ◌^◌, ◌≤◌, ◌<◌, Bool, true, false, refl, subst, inl, inr, arith}
use Rattle.std.specs.Prelude.{if◌then◌else◌, nat_le}
use Rattle.std.proofs.lemmas.Bool.{cases_eq, cases_lt, le-leb, leb-true}
use Rattle.std.proofs.Math.Nat.{le_antisymm, le_of_lt, le_refl, le_trans, lt_irrefl, lt_of_le_of_lt, lt_of_lt_of_le, one-le-pow, pow-le-pow_left, pow-lt-pow_left}
use Rattle.std.proofs.Math.Pow.{pow_mono}
use Rattle.weight_learning.specs.Steps.{IsLogarithm, greatest_up_to, steps}

-- ---- the greatest number that passes

greatest_passes : (p : ℕ → Bool) (most : ℕ) → p 0 ≡ true → p (greatest_up_to p most) ≡ true
greatest_passes p zero none = none
greatest_passes p (suc most) none = at (p (suc most)) refl (greatest_passes p most none)
  where
    at : (b : Bool) → p (suc most) ≡ b → p (greatest_up_to p most) ≡ true → p (if b then suc most else greatest_up_to p most) ≡ true
    at true e below = e
    at false e below = below

greatest_last : (p : ℕ → Bool) (most j : ℕ) → j ≤ most → p j ≡ true → j ≤ greatest_up_to p most
greatest_last p zero j le passes = le
greatest_last p (suc most) j le passes = at (p (suc most)) refl (λ within. greatest_last p most j within passes)
  where
    at : (b : Bool) → p (suc most) ≡ b → (j ≤ most → j ≤ greatest_up_to p most) → j ≤ (if b then suc most else greatest_up_to p most)
    at true e below = le
    at false e below = elim (cases_eq j (suc most)) [
      | inl same ↦ (let last : p (suc most) ≡ true = subst (λ n. p n ≡ true) same passes in absurd (cc))
      | inr other ↦ below (omega arith)
    ]

greatest_few : (p : ℕ → Bool) (most : ℕ) → greatest_up_to p most ≤ most
greatest_few p zero = le_refl 0
greatest_few p (suc most) = at (p (suc most)) (greatest_few p most)
  where
    at : (b : Bool) → greatest_up_to p most ≤ most → (if b then suc most else greatest_up_to p most) ≤ suc most
    at true below = le_refl (suc most)
    at false below = omega arith

-- ---- the greatest k with 2 ^ k ≤ n ^ 64

pub below_power : (x top j : ℕ) → x < 2 ^ top → 2 ^ j ≤ x → j < top
below_power x top j few reached = elim (cases_lt j top) [
  | inl less ↦ less
  | inr ge ↦ absurd (lt_irrefl x (lt_of_lt_of_le few (le_trans (pow_mono ge) reached)))
]

power_few : (n : ℕ) → n < 2 ^ 40 → n ^ 64 < 2 ^ 2560
power_few n few = pow-lt-pow_left {a = n} {b = 2 ^ 40} {n = 64} few (λ e. absurd (cc))

pub steps_are : (n : ℕ) → 1 ≤ n → n < 2 ^ 40 → IsLogarithm n (steps n)
unfolding steps
steps_are n some few = record {
  reached = leb-true (2 ^ steps n) (n ^ 64) (greatest_passes (λ k. nat_le (2 ^ k) (n ^ 64)) 2560 (le-leb (2 ^ 0) (n ^ 64) (one-le-pow 64 n some)));
  greatest = λ j reached.
      let within : j ≤ 2560 = le_of_lt (below_power (n ^ 64) 2560 j (power_few n few) reached) in
      greatest_last (λ k. nat_le (2 ^ k) (n ^ 64)) 2560 j within (le-leb (2 ^ j) (n ^ 64) reached);
}

pub steps_few : (n : ℕ) → steps n ≤ 2560
unfolding steps
steps_few n = greatest_few (λ k. nat_le (2 ^ k) (n ^ 64)) 2560

pub steps_rise : (m n : ℕ) → 1 ≤ m → m ≤ n → n < 2 ^ 40 → steps m ≤ steps n
steps_rise m n some le few =
    let smaller = steps_are m some (lt_of_le_of_lt le few) in
    (steps_are n (le_trans some le) few).greatest (steps m) (le_trans smaller.reached (pow-le-pow_left le 64))

-- what is reached, and is not by one more, is the logarithm
pub steps_is : (n k : ℕ) → 1 ≤ n → n < 2 ^ 40 → 2 ^ k ≤ n ^ 64 → n ^ 64 < 2 ^ (k + 1) → steps n ≡ k
steps_is n k some few reached short =
    let are = steps_are n some few in
    let up : k ≤ steps n = are.greatest k reached in
    let down : steps n < k + 1 = below_power (n ^ 64) (k + 1) (steps n) short are.reached in
    le_antisymm (le_of_lt-add-one (steps n) k down) up
  where
    le_of_lt-add-one : (a b : ℕ) → a < b + 1 → a ≤ b
    le_of_lt-add-one a b h = omega arith
