use Rattle.std.proofs.Common.{rules, ◌≡◌, ◌∙◌, ◌<◌, ◌-◌, length, ap, refl, sym, arith}
use Rattle.std.specs.Prelude.{Some, slice_get}
use Rattle.std.proofs.lemmas.Bool.Decides.{nat_tests}
use Rattle.best_trees.proofs.Offers.{cheaper-last}
use Rattle.best_trees.proofs.ranking.Ranking.are_cheaper.Goals as goal

pub returns-then-len-count : goal.returns-then-len-count
returns-then-len-count c = λ less.
    let xs = c.args.self.now in
    let all = c.deref.ensures.value ∙ c.self.view_is in
    let at : slice_get xs (length xs - 1) ≡ Some c.in-Some.last.now = sym (c.in-Some.ensures.value ∙ ap (λ l. slice_get l (length l - 1)) all) in
    let own : c.len.result ≡ length xs = search rules in
    let few = c.requires.few in
    let many = c.if-len-count.true in
    let low : c.cost.result < c.args.cost = grind (arith, nat_tests, less) in
    let cost = c.cost.ensures in
    cheaper-last c.args.count c.args.cost (length xs - 1) xs c.in-Some.last.now c.requires.in_order (omega (arith, own, few, many)) refl at (omega (arith, low, cost))
