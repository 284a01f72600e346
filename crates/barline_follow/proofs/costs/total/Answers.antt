use Rattle.std.proofs.Common.{sym, ◌∙◌, arith}
use Rattle.barline_follow.proofs.Totals.{own_low, total_more}
use Rattle.barline_follow.proofs.costs.total.Goals as goal

pub overflow_add-sum : goal.overflow_add-sum
overflow_add-sum c =
    let own = own_low c.args.is_closed _ c.in_ok-sum.field-0 (c.requires.low c.voices.heads-index _ c.voices-test.true) (sym c.own_cost.ensures ∙ c.in_ok-sum.was) in
    omega (arith, own, c.voices.invariant.1, c.voices-test.true, c.requires.few)

pub voices-preserved : goal.voices-preserved
voices-preserved c =
    let is = sym c.own_cost.ensures ∙ c.in_ok-sum.was in
    let own = own_low c.args.is_closed _ c.in_ok-sum.field-0 (c.requires.low c.voices.heads-index _ c.voices-test.true) is in (
      sym (total_more c.args.is_closed c.args.voices.now c.voices.heads-index _ c.voices-test.true c.voices.sum c.in_ok-sum.field-0 is) ∙ c.voices.invariant.0,
      omega (arith, own, c.voices.invariant.1),
    )
