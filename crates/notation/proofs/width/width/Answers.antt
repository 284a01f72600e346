use Rattle.std.proofs.Common.{◌≡◌, ◌*◌, ◌^◌, ◌%◌, ℕ, ◌∙◌, sym, ap, arith}
use Rattle.std.proofs.lemmas.Nat.{pow_pos}
use Rattle.durations.specs.Value.{plain_grid}
use Rattle.durations.proofs.Powers.{bit_is}
use Rattle.durations.proofs.Wide.{some_product}
use Rattle.notation.proofs.width.width.Goals as goal
use Rattle.notation.proofs.width.width.Goals.{in-Of, in-Breve, in-Long}

pub nonzero_div-result : goal.nonzero_div-result
nonzero_div-result c =
    let grid : c.match-value.parts.1 ≡ plain_grid c.args.value.recip = elim c.match-value.branch [
      | in-Of w ↦ ap (λ (p : ℕ × ℕ). p.1) w.parts-is ∙ w.from.ensures ∙ sym (ap plain_grid w.in-Of.is)
      | in-Breve w ↦ ap (λ (p : ℕ × ℕ). p.1) w.parts-is ∙ sym (ap plain_grid w.in-Breve.is)
      | in-Long w ↦ ap (λ (p : ℕ × ℕ). p.1) w.parts-is ∙ sym (ap plain_grid w.in-Long.is)
    ] in
    let halves = bit_is c.args.value.dots (omega (arith, c.requires.dots)) in
    let p = pow_pos c.args.value.dots in
    some_product c.match-value.parts.1 (1 * 2 ^ c.args.value.dots % 2 ^ 64) (omega (arith, grid, c.requires.some)) (omega (arith, halves, p))
