-- The tables of roots and of thresholds, computed.
use Rattle.std.proofs.Common.{◌≡◌, ℕ, ◌+◌, ◌-◌, ◌^◌, ◌≤◌, ◌<◌, Bool, true, ◌&&◌, List, length, refl, sym, subst, inl, inr, arith}
use Rattle.std.specs.Int.{div_ceil}
use Rattle.std.specs.Prelude.{nat_le, nat_lt, ◌==◌, slice_index}
use Rattle.std.specs.List.Sorted.{IsNonDecreasingBy}
use Rattle.std.proofs.lemmas.Bool.{and_parts, cases_lt, leb-true, ltb-true}
use Rattle.std.proofs.lemmas.Bool.{eqb-true}
use Rattle.std.proofs.lemmas.List.{get_or_default}
use Rattle.std.proofs.Math.Nat.{le_of_eq, le_trans, lt_irrefl, lt_of_le_of_lt, lt_of_lt_of_le, pow-le-pow_left}
use Rattle.std.proofs.Math.Pow.{pow_mono}
use Rattle.weight_learning.specs.declared.roots.TheConstants.{ROOTS}
use Rattle.weight_learning.specs.Thresholds.{IsThreshold, threshold, thresholds}
use Rattle.weight_learning.proofs.Tables.{all_from, passes_at}

-- t ^ 64 reaches 2 ^ (base + j), and the number before t does not
abbrev is_root : ℕ → ℕ → ℕ → Bool
is_root base j t = nat_le (2 ^ (base + j)) (t ^ 64) && nat_lt ((t - 1) ^ 64) (2 ^ (base + j))

-- ---- any such table

-- number j of the table is the least t with t ^ 64 ≥ 2 ^ (base + j)
pub record AreRoots (base : ℕ) (table : List ℕ) : Type 0 where
  pub reach : (j : ℕ) → j < length table → 2 ^ (base + j) ≤ slice_index table j ^ 64
  pub least : (j s : ℕ) → j < length table → s < slice_index table j → s ^ 64 < 2 ^ (base + j)

are_roots : (base : ℕ) (table : List ℕ) → all_from (is_root base) 0 table ≡ true → AreRoots base table
are_roots base table pass = record {
  reach = λ j lt. leb-true (2 ^ (base + j)) (slice_index table j ^ 64) (at j lt).0;
  least = λ j s lt less.
      let before : s ≤ slice_index table j - 1 = omega arith in
      lt_of_le_of_lt (pow-le-pow_left before 64) (ltb-true ((slice_index table j - 1) ^ 64) (2 ^ (base + j)) (at j lt).1);
}
  where
    at : (j : ℕ) → j < length table → (nat_le (2 ^ (base + j)) (slice_index table j ^ 64) ≡ true) × (nat_lt ((slice_index table j - 1) ^ 64) (2 ^ (base + j)) ≡ true)
    at j lt =
        let same : 0 + j ≡ j = omega arith in
        and_parts (nat_le (2 ^ (base + j)) (slice_index table j ^ 64)) _
        (subst (λ i. is_root base i (slice_index table j) ≡ true) same (passes_at (is_root base) 0 table j pass lt))

-- roots rise
rise : (base : ℕ) (table : List ℕ) → AreRoots base table → (i j : ℕ) → i ≤ j → j < length table → slice_index table i ≤ slice_index table j
rise base table roots i j le lt = elim (cases_lt (slice_index table j) (slice_index table i)) [
  | inl less ↦
      (let above : 2 ^ (base + i) ≤ slice_index table j ^ 64 = le_trans (pow_mono (omega arith)) (roots.reach j lt) in
      let within : i < length table = omega arith in
      absurd (lt_irrefl (slice_index table j ^ 64) (lt_of_lt_of_le (roots.least i (slice_index table j) within less) above)))
  | inr ge ↦ ge
]

-- ---- the two tables

roots_pass : all_from (is_root 2560) 0 ROOTS ≡ true
roots_pass = refl

thresholds_pass : all_from (is_root 1984) 0 thresholds ≡ true
thresholds_pass = refl

-- a threshold is a root without its last nine bits, rounded up
thresholds_are_roots : all_from (λ j t. div_ceil t 512 == slice_index thresholds j) 0 ROOTS ≡ true
thresholds_are_roots = refl

-- what the table of roots is to others
pub roots : AreRoots 2560 ROOTS
roots = are_roots 2560 ROOTS roots_pass

pub roots_rise : IsNonDecreasingBy (λ y. y) ROOTS
roots_rise i j d le lt =
    let within : i < length ROOTS = lt_of_le_of_lt le lt in
    let one = get_or_default ROOTS i d 0 within in
    let other = get_or_default ROOTS j d 0 lt in
    le_trans (le_of_eq one) (le_trans (rise 2560 ROOTS roots i j le lt) (le_of_eq (sym other)))

pub threshold_of_root : (j : ℕ) → j < 64 → div_ceil (slice_index ROOTS j) 512 ≡ threshold j
unfolding threshold
threshold_of_root j lt =
    let same : 0 + j ≡ j = omega arith in
    eqb-true (div_ceil (slice_index ROOTS j) 512) (slice_index thresholds j)
    (subst (λ i. (div_ceil (slice_index ROOTS j) 512 == slice_index thresholds i) ≡ true) same
    (passes_at (λ i t. div_ceil t 512 == slice_index thresholds i) 0 ROOTS j thresholds_are_roots lt))

-- each threshold is the least number of its property
pub is_threshold : (j : ℕ) → j < 64 → IsThreshold j (threshold j)
unfolding threshold
is_threshold j lt =
    let table = are_roots 1984 thresholds thresholds_pass in
    record {
      reaches = table.reach j lt;
      least = λ s reached. elim (cases_lt s (slice_index thresholds j)) [
        | inl less ↦ absurd (lt_irrefl (s ^ 64) (lt_of_lt_of_le (table.least j s lt less) reached))
        | inr ge ↦ ge
      ];
    }
