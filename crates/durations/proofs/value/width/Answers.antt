use Rattle.std.proofs.Common.{◌≡◌, ◌*◌, ◌^◌, ◌%◌, ℕ, ◌∙◌, sym, ap, arith}
use Rattle.std.proofs.lemmas.Nat.{pow_pos}
use Rattle.durations.specs.Value.{plain_grid}
use Rattle.durations.proofs.Powers.{bit_is}
use Rattle.durations.proofs.Wide.{some_product, wide_some}
use Rattle.durations.proofs.value.width.Goals as goal
use Rattle.durations.proofs.value.width.Goals.{in-Of, in-Breve, in-Long}

pub nonzero_div-result : goal.nonzero_div-result
nonzero_div-result c =
    let some = wide_some c.args.whole c.args.value.recip c.args.value.dots (omega (arith, c.count-whole.ensures.is, c.count-whole.ensures.some)) c.requires.wide in
    let grid : c.match-value.parts.1 ≡ plain_grid c.args.value.recip = elim c.match-value.branch [
      | in-Of w ↦ ap (λ (p : ℕ × ℕ). p.1) w.parts-is ∙ w.from.ensures ∙ sym (ap plain_grid w.in-Of.is)
      | in-Breve w ↦ ap (λ (p : ℕ × ℕ). p.1) w.parts-is ∙ sym (ap plain_grid w.in-Breve.is)
      | in-Long w ↦ ap (λ (p : ℕ × ℕ). p.1) w.parts-is ∙ sym (ap plain_grid w.in-Long.is)
    ] in
    let halves = bit_is c.args.value.dots (omega (arith, c.requires.dots)) in
    let p = pow_pos c.args.value.dots in
    some_product c.match-value.parts.1 (1 * 2 ^ c.args.value.dots % 2 ^ 64) (omega (arith, grid, some)) (omega (arith, halves, p))
