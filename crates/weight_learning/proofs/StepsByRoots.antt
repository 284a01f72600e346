-- The logarithm by the table of roots.
use Rattle.std.proofs.Common.{lit≤, zero-le, true, false, ◌≡◌, ℕ, zero, suc, ◌+◌, ◌-◌, ◌*◌, ◌%◌, ◌^◌, ◌≤◌, ◌<◌, ◌⊎◌, sym, ap, ◌∙◌, subst, inl, inr, arith}
use Rattle.std.specs.Int.Count.{count_leading_zeros}
use Rattle.std.specs.List.Sorted.{IsPartitionPoint}
use Rattle.std.specs.Prelude.{nat_le, slice_index}
use Rattle.std.proofs.lemmas.Bool.{cases_lt, leb-false, leb-true}
use Rattle.std.proofs.lemmas.Nat.{leading_top, mul-pow, pow-add, pow_pos, shl_whole}
use Rattle.std.proofs.Math.Nat.{le_of_eq, le_refl, le_of_mul-le-mul_right, le_trans, lt_irrefl, lt_of_le_of_lt, lt_of_lt_of_le, lt_of_mul-lt-mul_right, mul-le-mul_right, mul-suc, pow-le-pow_left, pow-lt-pow_left, pow-suc, pow-zero}
use Rattle.weight_learning.specs.declared.roots.TheConstants.{ROOTS}
use Rattle.weight_learning.specs.Steps.{steps}
use Rattle.weight_learning.proofs.Logarithms.{below_power, steps_is}
use Rattle.weight_learning.proofs.RootTable.{roots}

power_of_power : (d k : ℕ) → (2 ^ d) ^ k ≡ 2 ^ (d * k)
power_of_power d zero = let none : d * 0 ≡ 0 = omega arith in pow-zero (2 ^ d) ∙ ap (λ n. 2 ^ n) (sym none)
power_of_power d (suc k) =
    let more : d * suc k ≡ d * k + d = mul-suc d k in
    pow-suc (2 ^ d) k ∙ ap (λ n. n * 2 ^ d) (power_of_power d k) ∙ sym (pow-add 2 (d * k) d) ∙ ap (λ n. 2 ^ n) (sym more)

scaled : (n d : ℕ) → (n * 2 ^ d) ^ 64 ≡ n ^ 64 * 2 ^ (d * 64)
scaled n d = mul-pow n (2 ^ d) 64 ∙ ap (λ m. n ^ 64 * m) (power_of_power d 64)

-- the exponent of a root, in two parts
split : (m d i : ℕ) → m + d ≡ 40 → 2 ^ (2560 + i) ≡ 2 ^ (64 * m + i) * 2 ^ (d * 64)
split m d i sum =
    let parts : 2560 + i ≡ (64 * m + i) + d * 64 = omega arith in
    ap (λ n. 2 ^ n) parts ∙ pow-add 2 (64 * m + i) (d * 64)

-- a number that reaches a root, scaled to 40 bits and more
reached : (n m d i : ℕ) → m + d ≡ 40 → i < 64 → slice_index ROOTS i ≤ n * 2 ^ d → 2 ^ (64 * m + i) ≤ n ^ 64
reached n m d i sum within le =
    let scaled_up : 2 ^ (64 * m + i) * 2 ^ (d * 64) ≤ n ^ 64 * 2 ^ (d * 64) =
    le_trans (le_of_eq (sym (split m d i sum))) (le_trans (roots.reach i within) (le_trans (pow-le-pow_left le 64) (le_of_eq (scaled n d)))) in
    le_of_mul-le-mul_right scaled_up (pow_pos (d * 64))

-- and one that does not
short : (n m d i : ℕ) → m + d ≡ 40 → i < 64 → n * 2 ^ d < slice_index ROOTS i → n ^ 64 < 2 ^ (64 * m + i)
short n m d i sum within less =
    lt_of_mul-lt-mul_right (2 ^ (d * 64))
    (lt_of_le_of_lt (le_of_eq (sym (scaled n d))) (lt_of_lt_of_le (roots.least i (n * 2 ^ d) within less) (le_of_eq (split m d i sum))))

-- one that has no bit more
last : (n m : ℕ) → n < 2 ^ suc m → n ^ 64 < 2 ^ (64 * m + 64)
last n m few =
    let same : suc m * 64 ≡ 64 * m + 64 = omega arith in
    lt_of_lt_of_le (pow-lt-pow_left {a = n} {b = 2 ^ suc m} {n = 64} few (λ e. absurd (cc))) (le_of_eq (power_of_power (suc m) 64 ∙ ap (λ k. 2 ^ k) same))

-- the number of roots that are reached
pub record AreReached (x count : ℕ) : Type 0 where
  pub few : count ≤ 64
  pub reach : (i : ℕ) → i < count → slice_index ROOTS i ≤ x
  pub stop : (i : ℕ) → count ≤ i → i < 64 → x < slice_index ROOTS i

pub some_reached : (n m d count : ℕ) → m + d ≡ 40 → 2 ^ m ≤ n → AreReached (n * 2 ^ d) count → 1 ≤ count
some_reached n m d zero sum le are =
    let full : 2 ^ m * 2 ^ d ≡ 2 ^ 40 = sym (pow-add 2 m d) ∙ ap (λ k. 2 ^ k) sum in
    let up : 2 ^ 40 ≤ n * 2 ^ d = le_trans (le_of_eq (sym full)) (mul-le-mul_right (2 ^ d) le) in
    absurd (lt_irrefl (n * 2 ^ d) (lt_of_lt_of_le (are.stop 0 (omega arith) (omega arith)) up))
some_reached n m d (suc count) sum le are = omega arith

pub steps_by_roots : (n m d count : ℕ) → m + d ≡ 40 → 1 ≤ n → n < 2 ^ 40 → 2 ^ m ≤ n → n < 2 ^ suc m → AreReached (n * 2 ^ d) count → 64 * m + count - 1 ≡ steps n
steps_by_roots n m d zero sum some few from to are = absurd (no (some_reached n m d 0 sum from are))
  where
    no : 1 ≤ 0 → ⊥
    no h = omega arith
steps_by_roots n m d (suc i) sum some few from to are =
    one ∙ sym (steps_is n (64 * m + i) some few (reached n m d i sum (are.few) (are.reach i (le_refl (suc i)))) (end (cases_lt (suc i) 64)))
  where
    one : 64 * m + suc i - 1 ≡ 64 * m + i
    one = omega arith

    next : 64 * m + suc i ≡ 64 * m + i + 1
    next = omega arith

    end : (suc i < 64) ⊎ (64 ≤ suc i) → n ^ 64 < 2 ^ (64 * m + i + 1)
    end (inl within) = subst (λ k. n ^ 64 < 2 ^ k) next (short n m d (suc i) sum within (are.stop (suc i) (le_refl (suc i)) within))
    end (inr all) =
        let whole : 64 * m + 64 ≡ 64 * m + i + 1 = omega (arith, all, are.few) in
        subst (λ k. n ^ 64 < 2 ^ k) whole (last n m to)

-- ---- as the code finds them

-- the place of a number's highest bit
pub record IsTop (n m : ℕ) : Type 0 where
  pub reaches : 2 ^ m ≤ n
  pub stops : n < 2 ^ suc m
  pub few : m < 40

pub top_is : (n : ℕ) → 1 ≤ n → n < 2 ^ 40 → IsTop n (63 - count_leading_zeros 64 n)
top_is n some few =
    let top = leading_top 64 n some (lt_of_lt_of_le few (lit≤ tt)) in
    let same : 63 - count_leading_zeros 64 n ≡ top.0 = place (count_leading_zeros 64 n) top.0 top.1 in
    subst (IsTop n) (sym same) record { reaches = top.2; stops = top.3; few = below_power n 40 top.0 few top.2 }
  where
    place : (above m : ℕ) → above + suc m ≡ 64 → 63 - above ≡ m
    place above m h = omega arith

-- the number, moved up to 41 bits
pub moved : (n m : ℕ) → IsTop n m → (n * 2 ^ (40 - m)) % 2 ^ 64 ≡ n * 2 ^ (40 - m)
moved n m top = let few : m < 40 = top.few in shl_whole n (suc m) (40 - m) 64 top.stops (omega arith)

pub steps_of_top : (n m count : ℕ) → 1 ≤ n → n < 2 ^ 40 → IsTop n m → count ≤ 64
    → IsPartitionPoint (λ root. nat_le root ((n * 2 ^ (40 - m)) % 2 ^ 64) ≡ true) (λ root. nat_le root ((n * 2 ^ (40 - m)) % 2 ^ 64) ≡ false) ROOTS count
    → (1 ≤ count) × (64 * m + count - 1 ≡ steps n)
steps_of_top n m count some few top within point =
    let sum : m + (40 - m) ≡ 40 = exponents top.few in
    let x : ℕ = (n * 2 ^ (40 - m)) % 2 ^ 64 in
    let same : x ≡ n * 2 ^ (40 - m) = moved n m top in
    let are : AreReached x count = record {
      few = within;
      reach = λ i less. leb-true (slice_index ROOTS i) x (point.0 i 0 zero-le less);
      stop = λ i from less. leb-false (slice_index ROOTS i) x (point.1 i 0 from less);
    } in
    let reached_by : AreReached (n * 2 ^ (40 - m)) count = subst (λ y. AreReached y count) same are in
    (some_reached n m (40 - m) count sum top.reaches reached_by, steps_by_roots n m (40 - m) count sum some few top.reaches top.stops reached_by)
  where
    exponents : m < 40 → m + (40 - m) ≡ 40
    exponents h = omega arith
