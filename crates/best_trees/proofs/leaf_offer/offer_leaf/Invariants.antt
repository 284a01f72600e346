use Rattle.std.proofs.Common.{[], ◌∷◌, ◌+◌}
use Rattle.rhythm_base.specs.Line.{agrees}
use Rattle.best_trees.proofs.LeafOffers.{IsOfferedBelow}
use Rattle.best_trees.proofs.leaf_offer.offer_leaf.Given as goal

abbrev pub invariant-counts : goal.invariant-counts
invariant-counts l = IsOfferedBelow l.count (l.cost, l.number ∷ []) (λ a. agrees l.ending (a + l.leaf.own) l.leaf.sounds) l.leaf.next l.initial.best l.from l.best
