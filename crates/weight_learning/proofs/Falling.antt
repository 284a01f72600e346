-- Shares fall.
use Rattle.std.proofs.Common.{zero-le, ◌≡◌, ℕ, zero, suc, ◌-◌, ◌*◌, ◌/◌, ◌^◌, ◌≤◌, ◌<◌, Bool, true, false, ◌&&◌, refl, sym, ap, subst, inl, inr, arith}
use Rattle.std.specs.Int.{div_ceil}
use Rattle.std.specs.Prelude.{if◌then◌else◌, nat_le, nat_lt}
use Rattle.std.proofs.lemmas.Bool.{and_parts, cases_eq, cases_lt, leb-true}
use Rattle.std.proofs.lemmas.Bool.Decides.{nat_tests}
use Rattle.std.proofs.Math.Nat.{le_of_eq, le_trans}
use Rattle.weight_learning.specs.Shares.{share}
use Rattle.weight_learning.specs.Thresholds.{threshold}

-- each of the first shares is no smaller than the next one
abbrev fall_to : ℕ → Bool
fall_to zero = true
fall_to (suc k) = nat_le (share (suc k)) (share k) && fall_to k

all_fall : fall_to 1984 ≡ true
unfolding share threshold
all_fall = refl

falls_before : (n k : ℕ) → k < n → fall_to n ≡ true → share (suc k) ≤ share k
falls_before zero k lt pass = absurd (omega arith)
falls_before (suc n) k lt pass =
    let here = and_parts (nat_le (share (suc n)) (share n)) _ pass in
    elim (cases_eq k n) [
      | inl same ↦ subst (λ m. share (suc m) ≤ share m) (sym same) (leb-true (share (suc n)) (share n) here.0)
      | inr other ↦ falls_before n k (omega arith) here.1
    ]

pub share_none : (k : ℕ) → 1984 ≤ k → share k ≡ 0
unfolding share
share_none k much = go (nat_lt k 1984) refl
  where
    go : (b : Bool) → nat_lt k 1984 ≡ b → (if b then threshold (64 * div_ceil k 64 - k) / 2 ^ div_ceil k 64 else 0) ≡ 0
    go true e = absurd (grind (arith, nat_tests))
    go false e = refl

pub share_some : (k : ℕ) → k < 1984 → share k ≡ threshold (64 * div_ceil k 64 - k) / 2 ^ div_ceil k 64
unfolding share
share_some k few = go (nat_lt k 1984) refl
  where
    go : (b : Bool) → nat_lt k 1984 ≡ b → (if b then threshold (64 * div_ceil k 64 - k) / 2 ^ div_ceil k 64 else 0) ≡ threshold (64 * div_ceil k 64 - k) / 2 ^ div_ceil k 64
    go true e = refl
    go false e = absurd (grind (arith, nat_tests))

falls : (k : ℕ) → share (suc k) ≤ share k
falls k = elim (cases_lt k 1984) [
  | inl few ↦ falls_before 1984 k few all_fall
  | inr much ↦ le_trans (le_of_eq (share_none (suc k) (omega arith))) zero-le
]

pub share_falls : (j k : ℕ) → j ≤ k → share k ≤ share j
share_falls j zero le = (let none : j ≡ 0 = omega arith in le_of_eq (ap share (sym none)))
share_falls j (suc k) le = elim (cases_eq j (suc k)) [
  | inl same ↦ le_of_eq (ap share (sym same))
  | inr other ↦ le_trans (falls k) (share_falls j k (omega arith))
]

first_share : share 0 ≡ 2 ^ 31
unfolding share threshold
first_share = refl

-- the greatest share is the first one
pub share_few : (k : ℕ) → share k ≤ 2 ^ 31
share_few k = le_trans (share_falls 0 k zero-le) (le_of_eq first_share)
