-- The odd part of a number, and the greatest power of two up to it.
use Rattle.std.proofs.Common.{◌≡◌, ℕ, suc, ◌*◌, ◌/◌, ◌%◌, ◌^◌, ap, ◌∙◌, arith}
use Rattle.std.proofs.Math.Nat.{pow-suc}

pub halved_more : (number odd k : ℕ) → odd % 2 ≡ 0 → number ≡ odd * 2 ^ k → number ≡ odd / 2 * 2 ^ suc k
halved_more number odd k even h =
    let half : odd ≡ odd / 2 * 2 = omega (arith, even) in
    let next : 2 ^ suc k ≡ 2 ^ k * 2 = pow-suc 2 k in
    h ∙ ap (λ x. x * 2 ^ k) half ∙ turned (odd / 2) (2 ^ k) ∙ ap (λ x. odd / 2 * x) (omega (arith, next))
  where
    turned : (a b : ℕ) → a * 2 * b ≡ a * (b * 2)
    turned a b = grind arith
