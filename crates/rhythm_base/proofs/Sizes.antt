-- A part of a cut is at most as wide as the whole.
use Rattle.std.proofs.Common.{◌≡◌, ℕ, zero, suc, ◌*◌, ◌/◌, ◌≤◌, ◌<◌, max, List, [], ◌∷◌, length, get_or, arith}
use Rattle.std.proofs.Math.Nat.{mul-le-mul_right}
use Rattle.rhythm_base.specs.Bodies.{sizes}

-- a size is at most the sum of all
pub size_le-sizes : (parts : List (ℕ × ℕ)) (i : ℕ) (d : ℕ × ℕ) → i < length parts → (get_or parts i d).0 ≤ sizes parts
size_le-sizes [] i d h = absurd (omega arith)
size_le-sizes (q ∷ qs) zero d h = omega arith
size_le-sizes (q ∷ qs) (suc i) d h = omega (arith, size_le-sizes qs i d (omega arith))

-- n shares of a width are within it
pub shares_le : (n w : ℕ) → n * (w / max 1 n) ≤ w
shares_le zero w = omega arith
shares_le (suc n) w =
    let long : max 1 (suc n) ≡ suc n = omega arith in
    let whole : suc n * (w / suc n) ≤ w = omega arith in
    rw long whole

-- a part is at most as wide as the whole
pub part_le : (parts : List (ℕ × ℕ)) (i w : ℕ) (d : ℕ × ℕ) → i < length parts → (get_or parts i d).0 * (w / max 1 (sizes parts)) ≤ w
part_le parts i w d h =
    let less = mul-le-mul_right (w / max 1 (sizes parts)) (size_le-sizes parts i d h) in
    omega (arith, less, shares_le (sizes parts) w)
