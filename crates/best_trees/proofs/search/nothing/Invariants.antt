use Rattle.best_trees.proofs.LeafOffers.{IsDiagonalBelow}
use Rattle.best_trees.proofs.search.nothing.Given as goal

abbrev pub invariant-counts : goal.invariant-counts
invariant-counts l = IsDiagonalBelow l.count l.number l.grid
