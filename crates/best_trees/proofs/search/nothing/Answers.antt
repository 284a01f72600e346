use Rattle.std.proofs.Common.{subst, sym}
use Rattle.best_trees.specs.Firsts.{AreKeptKeys}
use Rattle.best_trees.specs.Grids.{ranking_at}
use Rattle.best_trees.proofs.LeafOffers.{diagonal-kept}
use Rattle.best_trees.proofs.search.nothing.Goals as goal

pub offer-requires : goal.offer-requires
offer-requires c =
    let kept = diagonal-kept c.args.count c.counts.number c.counts.grid c.counts-test.true c.counts.invariant in
    record { kept = subst (λ n. AreKeptKeys c.args.count (ranking_at c.counts.grid n n)) (sym c.of-carried.ensures) kept }
