-- A value counts in at least one part of a whole note.
use Rattle.std.proofs.Common.{◌≡◌, ℕ, zero, suc, ◌-◌, ◌*◌, ◌^◌, ◌≤◌, subst, arith}
use Rattle.std.specs.Int.{◌∣◌}
use Rattle.std.proofs.Math.Nat.{eq-zero_of_zero-dvd}
use Rattle.std.proofs.lemmas.Nat.{pow_pos}
use Rattle.durations.specs.declared.value.Recip.{Recip}
use Rattle.durations.specs.declared.value.Recip.TheVariants.{Of, Breve, Long}
use Rattle.durations.specs.Value.{plain_grid, plain_parts}

pub some_parts : (r : Recip) → 1 ≤ plain_parts r
some_parts (Of n) = omega arith
some_parts Breve = omega arith
some_parts Long = omega arith

-- a product of numbers above 0 is above 0
pub some_product : (a b : ℕ) → 1 ≤ a → 1 ≤ b → 1 ≤ a * b
some_product (suc a) b some more = omega (arith, more)
some_product zero b some more = absurd (omega (arith, some))

pub wide_some : (whole : ℕ) (r : Recip) (j : ℕ) → 1 ≤ whole → plain_grid r * 2 ^ j ∣ plain_parts r * (2 * 2 ^ j - 1) * whole → 1 ≤ plain_grid r
wide_some whole r j some h = go (plain_grid r) h
  where
    go : (n : ℕ) → n * 2 ^ j ∣ plain_parts r * (2 * 2 ^ j - 1) * whole → 1 ≤ n
    go zero h =
        let none : plain_parts r * (2 * 2 ^ j - 1) * whole ≡ 0 = eq-zero_of_zero-dvd (subst (λ x. x ∣ plain_parts r * (2 * 2 ^ j - 1) * whole) (omega arith) h) in
        let p = pow_pos j in
        let halves : 1 ≤ 2 * 2 ^ j - 1 = omega (arith, p) in
        let all = some_product (plain_parts r * (2 * 2 ^ j - 1)) whole (some_product (plain_parts r) (2 * 2 ^ j - 1) (some_parts r) halves) some in
        absurd (omega (arith, all, none))
    go (suc n) h = omega arith
