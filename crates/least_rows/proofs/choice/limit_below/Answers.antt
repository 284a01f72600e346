use Rattle.std.proofs.Common.{sym, ◌∙◌, arith}
use Rattle.least_rows.proofs.Limits.{limit-few, limit-many, limit-none}
use Rattle.least_rows.proofs.choice.limit_below.Goals as goal

pub returns-then-most-eq0 : goal.returns-then-most-eq0
returns-then-most-eq0 c =
    let none = c.if-most-eq0.true in
    c.left_of.ensures ∙ sym (limit-none c.args.best.now c.args.most c.args.cut.now (omega (arith, none)))

pub returns-then-most-lt4 : goal.returns-then-most-lt4
returns-then-most-lt4 c =
    let few = c.if-most-lt4.true in
    c.left_of_all.ensures ∙ sym (limit-few c.args.best.now c.args.most c.args.cut.now (omega (arith, few)))

pub returns-else-most-lt4 : goal.returns-else-most-lt4
returns-else-most-lt4 c =
    let many = c.if-most-lt4.false in
    sym (limit-many c.args.best.now c.args.most c.args.cut.now (omega (arith, many)))
