-- Counters that rise by so many times a number.
use Rattle.std.proofs.Common.{◌≡◌, ℕ, ◌+◌, ◌*◌, ◌≤◌, arith}
use Rattle.std.proofs.Math.Nat.{mul-le-mul_right}
use Rattle.rhythm_base.specs.Counter.{risen}

pub risen_more : (start m d now later : ℕ) → now ≤ risen start (m * d) → later ≤ risen now d → later ≤ risen start ((m + 1) * d)
risen_more start m d now later h k =
    let more : (m + 1) * d ≡ m * d + d = grind arith in
    omega (arith, more, h, k)

pub risen_both : (start m n d now later : ℕ) → now ≤ risen start (m * d) → later ≤ risen now (n * d) → later ≤ risen start ((m + n) * d)
risen_both start m n d now later h k =
    let more : (m + n) * d ≡ m * d + n * d = grind arith in
    omega (arith, more, h, k)

pub risen_upto : (start m n d now : ℕ) → m ≤ n → now ≤ risen start (m * d) → now ≤ risen start (n * d)
risen_upto start m n d now le h =
    let most : m * d ≤ n * d = mul-le-mul_right d le in
    omega (arith, most, h)
