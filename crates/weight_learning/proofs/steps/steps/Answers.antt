use Rattle.std.proofs.Common.{◌-◌, ◌∙◌, ap, arith, ◌*◌, ◌+◌}
use Rattle.std.specs.Int.Count.{count_leading_zeros}
use Rattle.std.proofs.Math.Nat.{le_of_eq, le_trans}
use Rattle.weight_learning.proofs.Logarithms.{steps_few}
use Rattle.weight_learning.proofs.StepsByRoots.{steps_of_top, top_is}
use Rattle.weight_learning.proofs.steps.steps.Goals as goal

pub overflow_sub-whole-2 : goal.overflow_sub-whole-2
overflow_sub-whole-2 c =
    let top = top_is c.args.n c.requires.some c.requires.few in
    omega (arith, top.few)

pub overflow_sub-result : goal.overflow_sub-result
overflow_sub-result c =
    let top = top_is c.args.n c.requires.some c.requires.few in
    let found = steps_of_top c.args.n (63 - count_leading_zeros 64 c.args.n) c.roots_up_to-roots.result c.requires.some c.requires.few top c.roots_up_to-roots.ensures.bound c.roots_up_to-roots.ensures.point in
    omega (arith, found.0)

pub returns-clause-value : goal.returns-clause-value
returns-clause-value c =
    let top = top_is c.args.n c.requires.some c.requires.few in
    let found = steps_of_top c.args.n (63 - count_leading_zeros 64 c.args.n) c.roots_up_to-roots.result c.requires.some c.requires.few top c.roots_up_to-roots.ensures.bound c.roots_up_to-roots.ensures.point in
    ap (λ m. 64 * m + c.roots_up_to-roots.result - 1) c.from.ensures ∙ found.1

pub returns-clause-few : goal.returns-clause-few
returns-clause-few c =
    let top = top_is c.args.n c.requires.some c.requires.few in
    let found = steps_of_top c.args.n (63 - count_leading_zeros 64 c.args.n) c.roots_up_to-roots.result c.requires.some c.requires.few top c.roots_up_to-roots.ensures.bound c.roots_up_to-roots.ensures.point in
    le_trans (le_of_eq (ap (λ m. 64 * m + c.roots_up_to-roots.result - 1) c.from.ensures ∙ found.1)) (steps_few c.args.n)
