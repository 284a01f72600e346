use Rattle.std.proofs.Common.{rules, ◌≡◌, ◌∙◌, ◌<◌, [], get_or, ap, subst, sym}
use Rattle.std.proofs.lemmas.List.{get_or_read_under}
use Rattle.best_trees.specs.Firsts.{AreKeptKeys}
use Rattle.best_trees.proofs.Grids.{at_pair}
use Rattle.best_trees.proofs.grid.Grid.offer_joined.Goals as goal

pub offer_at-requires-clause-kept : goal.offer_at-requires-clause-kept
offer_at-requires-clause-kept c =
    let i = c.pairs.pair in
    let low : i < 25 = c.pairs-test.true in
    let here = subst (λ j. c.index_mut-best.result.now ≡ get_or c.pairs.self-inside.rankings.items j c.index_mut-best.result.now) c.from.ensures c.index_mut-best.ensures.value in
    let read = get_or_read_under c.pairs.self-inside.rankings.items i 25 c.index_mut-best.result.now [] here low (sym c.pairs.invariant.long) in
    let is = read ∙ c.pairs.invariant.rest i (search rules) ∙ ap (λ xs. get_or xs i []) c.self.view_is in
    subst (AreKeptKeys c.args.count) (sym is) (at_pair (AreKeptKeys c.args.count) c.args.self.now c.requires.kept i low)
