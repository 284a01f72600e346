-- Sets of keys by their bits.
use Rattle.std.proofs.Common.{◌≡◌, ℕ, zero, suc, ◌*◌, ◌<◌, ◌^◌, bit_and, refl, ap, ◌∙◌, arith, sym}
use Rattle.std.specs.Int.{IsBitSet, bit_at}
use Rattle.std.proofs.lemmas.Nat.{pow_pos}
use Rattle.std.proofs.lemmas.Nat.Bits.{and_pow, bit_at-lt}
use Rattle.std.specs.Prelude.{◌↔◌, Bool, true, IsTrue, false}
use Rattle.std.proofs.lemmas.Bool.{false≢true}

pub bit_clear : (keys k : ℕ) → (IsBitSet keys k → ⊥) → bit_at keys k ≡ 0
bit_clear keys k none = go (bit_at keys k) refl (bit_at-lt keys k)
  where
    go : (b : ℕ) → bit_at keys k ≡ b → b < 2 → b ≡ 0
    go zero e lt = refl
    go (suc b) e lt =
        let one : suc b ≡ 1 = omega arith in
        let whole : 1 * 2 ^ k ≡ 2 ^ k = omega arith in
        let value : bit_and keys (2 ^ k) ≡ 2 ^ k = and_pow keys k ∙ ap (λ x. x * 2 ^ k) (e ∙ one) ∙ whole in
        absurd (none (λ zero. let some = pow_pos k in omega (arith, some, value, zero)))

pub had : (b : Bool) (keys k : ℕ) → IsTrue b ↔ IsBitSet keys k → b ≡ true → IsBitSet keys k
had b keys k has e = has.0 e

pub not_had : (b : Bool) (keys k : ℕ) → IsTrue b ↔ IsBitSet keys k → b ≡ false → IsBitSet keys k → ⊥
not_had b keys k has e set = false≢true (sym e ∙ has.1 set)
