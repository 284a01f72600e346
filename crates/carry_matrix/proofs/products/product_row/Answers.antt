use Rattle.std.proofs.Common.{◌∙◌, arith}
use Rattle.rhythm_base.specs.Ranked.{choice}
use Rattle.carry_matrix.proofs.Choices.{choice_low, product_row}
use Rattle.carry_matrix.proofs.products.product_row.Goals as goal

pub returns : goal.returns
returns c =
    c.row_chosen.ensures (choice c.args.a.now c.args.b.now c.args.from) (choice_low c.args.a.now c.args.b.now c.requires.small c.requires.ranked c.args.from) c.chosen_row.ensures
    ∙ product_row c.args.a.now c.args.b.now c.args.from (omega (arith, c.count-range.ensures.is, c.count-range.ensures.within))
