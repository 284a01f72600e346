use Rattle.std.proofs.Common.{rules, ◌≡◌, ◌∙◌, ◌+◌, ◌*◌, ◌≤◌, ap, arith}
use Rattle.carry_matrix.specs.Choices.{choice_code}
use Rattle.carry_matrix.proofs.Choices.{stays}
use Rattle.carry_matrix.proofs.choice.nearer.Goals as goal

pub returns-else-is_nearer : goal.returns-else-is_nearer
returns-else-is_nearer c = λ o right low is cost rank small.
    let own : c.args.best.cost ≡ (choice_code o).cost = ap (λ b. b.cost) is in
    let order : c.args.best.order ≡ (choice_code o).order = ap (λ b. b.order) is in
    let above : c.args.best.cost ≤ c.args.left.cost + c.args.cost = search rules in
    let after : c.args.left.cost + c.args.cost ≡ c.args.best.cost → c.args.best.order ≤ 8 * c.args.left.rank + 7 = search rules in
    is ∙ stays o c.args.middle c.args.left right low small (omega (arith, own, cost, above)) (λ e. omega (arith, order, after (omega (arith, e, own, cost))))
