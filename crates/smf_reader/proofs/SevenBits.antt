-- Numbers of digits of seven bits.
use Rattle.std.proofs.Common.{ℕ, ◌<◌, ◌≤◌, ◌^◌, arith}
use Rattle.std.proofs.Math.Nat.{pow-le-pow_right}

-- three digits make a number below 2 ^ 21
pub three_digits_below : (digits n : ℕ) → digits ≤ 3 → n < 128 ^ digits → n < 2 ^ 21
three_digits_below digits n le below =
    let few : 128 ^ digits ≤ 128 ^ 3 = pow-le-pow_right {n = 128} (omega arith) le in
    omega arith
