use Rattle.std.proofs.Common.{◌<◌, ◌∙◌, ap, arith}
use Rattle.std.specs.Prelude.{Some}
use Rattle.rhythm_base.specs.Ranked.{middle_of}
use Rattle.carry_matrix.proofs.Choices.{choice_low, middle_low, middle_none, middle_there}
use Rattle.carry_matrix.proofs.products.between.Goals as goal

pub returns-then-choice-lt-ABOVE_COSTS : goal.returns-then-choice-lt-ABOVE_COSTS
unfolding middle_of
returns-then-choice-lt-ABOVE_COSTS c =
    ap Some c.of.ensures ∙ middle_there _ c.chosen-choice.result c.chosen-choice.ensures c.if-choice-lt-ABOVE_COSTS.true

pub returns-else-choice-lt-ABOVE_COSTS : goal.returns-else-choice-lt-ABOVE_COSTS
unfolding middle_of
returns-else-choice-lt-ABOVE_COSTS c =
    middle_none _ c.chosen-choice.result (choice_low c.args.a.now c.args.b.now c.requires.small c.see.ensures c.args.from c.args.to (omega (arith, c.count-range.ensures.is, c.count-range.ensures.within))) c.chosen-choice.ensures (omega (arith, c.if-choice-lt-ABOVE_COSTS.false))

pub of-requires : goal.of-requires
of-requires c = middle_low c.args.a.now c.args.b.now c.args.from c.args.to c.chosen-choice.result c.chosen-choice.ensures

pub overflow_cast-choice : goal.overflow_cast-choice
overflow_cast-choice c =
    let low : c.chosen-choice.result.middle < 5 = middle_low c.args.a.now c.args.b.now c.args.from c.args.to c.chosen-choice.result c.chosen-choice.ensures in
    omega (arith, low)
