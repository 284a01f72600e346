-- Least common multiples, and the parts in which values count.
use Rattle.std.proofs.Common.{inl, inr, ◌≡◌, ℕ, zero, suc, ◌-◌, ◌*◌, ◌/◌, ◌^◌, ◌<◌, ◌≤◌, List, [], ◌∷◌, ◌++◌, refl, sym, ap, ◌∙◌, subst, arith, Option, Some, None}
use Rattle.std.specs.Prelude.{◌↔◌, All, IfSome, IsSome}
use Rattle.std.specs.Int.{◌∣◌}
use Rattle.std.proofs.Math.Nat.{div-le_of_le-mul, div-mul_cancel, dvd-mul_right, dvd-mul_left, dvd_refl, dvd_trans, mul-div_left, mul-le-mul_left, mul-le-mul_right, le-div_iff_mul-le}
use Rattle.std.proofs.lemmas.Bool.{cases_lt, false≢true}
use Rattle.std.proofs.lemmas.List.Elements.{All-head, All-tail}
use Rattle.std.proofs.lemmas.Nat.Gcd.{IsGcd-swap, same_from_IsGcd}
use Rattle.durations.specs.declared.grid.TheConstants.{MOST_GRID}
use Rattle.durations.specs.declared.value.Recip.{Recip}
use Rattle.durations.specs.declared.value.Recip.TheVariants.{Of, Breve, Long}
use Rattle.durations.specs.declared.value.Value.{Value}
use Rattle.durations.specs.Value.{parts, plain_grid, plain_parts, value_grid, width}
use Rattle.durations.specs.Values.{IsLowest}
use Rattle.text_words.specs.Divisors.{gcd}
use Rattle.kern_reader.specs.Columns.{IsGridWith, grid_with, lcm}
use Rattle.text_words.proofs.Divisors.{gcd_is, gcd_some}
use Rattle.text_words.specs.Values.{IsWellValue}

-- ---- the least common multiple

pub lcm_of_lowest : (grid n a b : ℕ) → 1 ≤ grid → IsLowest n grid a b → grid * a ≡ lcm grid n
lcm_of_lowest grid n a b some (g, is, parts, whole) =
    let same : g ≡ gcd grid n = same_from_IsGcd grid n g (gcd grid n) (IsGcd-swap n grid g is) (gcd_is grid n) in
    let positive : 0 < g = factor b g (subst (λ x. 1 ≤ x) whole some) in
    let quotient : n / gcd grid n ≡ a = ap (λ x. n / x) (sym same) ∙ ap (λ x. x / g) parts ∙ mul-div_left a positive in
    ap (λ x. grid * x) (sym quotient)
  where
    factor : (b g : ℕ) → 1 ≤ b * g → 0 < g
    factor b zero h = absurd (omega (arith, h))
    factor b (suc g) h = omega arith

-- it is a multiple of both
pub lcm_first : (a b : ℕ) → a ∣ lcm a b
lcm_first a b = dvd-mul_right a (b / gcd a b)

pub lcm_second : (a b : ℕ) → b ∣ lcm a b
lcm_second a b =
    let g = gcd a b in
    let is = gcd_is a b in
    let first : a / g * g ≡ a = div-mul_cancel g is.0 in
    let second : b / g * g ≡ b = div-mul_cancel g is.1 in
    let turned : a * (b / g) ≡ a / g * b = ap (λ x. x * (b / g)) (sym first) ∙ swapped (a / g) g (b / g) ∙ ap (λ x. a / g * x) second in
    subst (λ x. b ∣ x) (sym turned) (dvd-mul_left b (a / g))
  where
    swapped : (x y z : ℕ) → x * y * z ≡ x * (z * y)
    swapped x y z = grind arith

-- and no less than the first
pub lcm_grows : (a b : ℕ) → 1 ≤ b → a ≤ lcm a b
lcm_grows a b some =
    let g = gcd a b in
    let (low, high) = gcd_some a b some in
    let one : 1 ≤ b / g = (le-div_iff_mul-le {k = g} {x = 1} {y = b} low).1 (omega (arith, high)) in
    let product : a * 1 ≤ a * (b / g) = mul-le-mul_left a one in
    omega (arith, product)

-- ---- values

abbrev IsCounted : Value → Type 0
IsCounted v = (1 ≤ value_grid v) × (value_grid v ≤ 245760) × (1 ≤ parts v) × (parts v ≤ 28) × (parts v ≤ 7 * value_grid v)

abbrev IsSmall : Recip → ℕ → Type 0
IsSmall recip dots = (1 ≤ plain_grid recip * 2 ^ dots) × (plain_grid recip * 2 ^ dots ≤ 245760) × (1 ≤ plain_parts recip * (2 * 2 ^ dots - 1))
    × (plain_parts recip * (2 * 2 ^ dots - 1) ≤ 28) × (plain_parts recip * (2 * 2 ^ dots - 1) ≤ 7 * (plain_grid recip * 2 ^ dots))

small_with : (recip : Recip) (dots : ℕ) → 1 ≤ plain_grid recip → plain_grid recip ≤ 61440 → dots ≤ 2 → IsSmall recip dots
small_with (Of n) zero some few two = (omega arith, omega arith, omega arith, omega arith, omega arith)
small_with (Of n) (suc zero) some few two = (omega arith, omega arith, omega arith, omega arith, omega arith)
small_with (Of n) (suc (suc zero)) some few two = (omega arith, omega arith, omega arith, omega arith, omega arith)
small_with Breve zero some few two = (omega arith, omega arith, omega arith, omega arith, omega arith)
small_with Breve (suc zero) some few two = (omega arith, omega arith, omega arith, omega arith, omega arith)
small_with Breve (suc (suc zero)) some few two = (omega arith, omega arith, omega arith, omega arith, omega arith)
small_with Long zero some few two = (omega arith, omega arith, omega arith, omega arith, omega arith)
small_with Long (suc zero) some few two = (omega arith, omega arith, omega arith, omega arith, omega arith)
small_with Long (suc (suc zero)) some few two = (omega arith, omega arith, omega arith, omega arith, omega arith)
small_with recip (suc (suc (suc dots))) some few two = absurd (omega arith)

pub counted : (v : Value) → IsWellValue v → IsCounted v
counted v well = small_with v.recip v.dots well.some well.few well.dots

-- a value is at most 7 whole notes
pub width_few : (grid : ℕ) (v : Value) → IsWellValue v → width grid v ≤ 7 * grid
width_few grid v well =
    let (some, few, one, most, short) = counted v well in
    let product : parts v * grid ≤ 7 * value_grid v * grid = mul-le-mul_right grid short in
    let turned : 7 * value_grid v * grid ≡ value_grid v * (7 * grid) = grind arith in
    div-le_of_le-mul (value_grid v) (subst (λ x. parts v * grid ≤ x) turned product)

-- ---- the grid of values

pub grid_append : (grid : ℕ) (vs ws : List Value) → grid_with grid (vs ++ ws) ≡ grid_with (grid_with grid vs) ws
grid_append grid [] ws = refl
grid_append grid (v ∷ vs) ws = grid_append (lcm grid (value_grid v)) vs ws

abbrev pub AreWell : List Value → Type 0
AreWell vs = All IsWellValue vs

pub grid_grows : (grid : ℕ) (vs : List Value) → AreWell vs → grid ≤ grid_with grid vs
grid_grows grid [] well = omega arith
grid_grows grid (v ∷ vs) well =
    let one = (counted v (All-head IsWellValue v vs well)).0 in
    omega (arith, lcm_grows grid (value_grid v) one, grid_grows (lcm grid (value_grid v)) vs (All-tail IsWellValue v vs well))

-- one value more, where the grid is made or is too fine
pub new_grid : (grid : ℕ) (v : Value) (result : Option ℕ) (finer : ℕ) → 1 ≤ grid → IsWellValue v → finer ≡ lcm grid (value_grid v)
    → IsSome result ↔ ((1 ≤ finer) × (finer ≤ MOST_GRID)) → IfSome result (λ g. g ≡ finer) → IsGridWith grid (v ∷ []) result
new_grid grid v None finer some well is within same = elim (cases_lt MOST_GRID finer) [
  | inl past ↦ subst (λ g. MOST_GRID < g) is past
  | inr few ↦ absurd (false≢true (within.1 (omega (arith, some, is, lcm_grows grid (value_grid v) (counted v well).0), few)))
]
new_grid grid v (Some g) finer some well is within same = (same ∙ is, omega (arith, same, (within.0 refl).1))

-- the values of the grid before count in it, and so do those that are new
pub grid_multiple : (grid : ℕ) (vs : List Value) → grid ∣ grid_with grid vs
grid_multiple grid [] = dvd_refl grid
grid_multiple grid (v ∷ vs) = dvd_trans grid (lcm_first grid (value_grid v)) (grid_multiple (lcm grid (value_grid v)) vs)
