-- A displacement is at most the length of the longest bar, 64 whole notes, in 960ths of a quarter.
use Rattle.std.proofs.Common.{◌≡◌, ℕ, ◌*◌, ◌<◌, ◌≤◌, arith}
use Rattle.std.proofs.Math.Nat.{div-le_of_le-mul, mul-le-mul_right, mul-le-mul_left}
use Rattle.rhythm_base.specs.Lists.{gap}
use Rattle.rhythm_base.specs.Cost.{displacement_of}

-- an onset of the bar and a unit of it are at most a bar apart
gap_small : (length r q t : ℕ) → q ≤ r → t < length → gap (t * r) (q * length) ≤ r * length
gap_small length r q t unit onset =
    let inside : t ≤ length = omega arith in
    let one = mul-le-mul_right r inside in
    let two = mul-le-mul_right length unit in
    let turned : length * r ≡ r * length = grind arith in
    omega (arith, one, two, turned)

pub displacement_small : (num den length r q t : ℕ) → num ≤ 64 → 1 ≤ den → q ≤ r → t < length → displacement_of num den length r q t ≤ 245760
displacement_small num den length r q t few some unit onset =
    let apart = gap_small length r q t unit onset in
    let first = mul-le-mul_left (3840 * num) apart in
    let second = mul-le-mul_right (3840 * (r * length)) few in
    let third = mul-le-mul_right (245760 * (r * length)) some in
    let left : 3840 * num * (r * length) ≡ num * (3840 * (r * length)) = grind arith in
    let right : 64 * (3840 * (r * length)) ≡ 1 * (245760 * (r * length)) = grind arith in
    let turned : den * (245760 * (r * length)) ≡ den * (r * length) * 245760 = grind arith in
    let all : 3840 * num * gap (t * r) (q * length) ≤ den * (r * length) * 245760 = omega (arith, first, second, third, left, right, turned) in
    div-le_of_le-mul (den * (r * length)) all
