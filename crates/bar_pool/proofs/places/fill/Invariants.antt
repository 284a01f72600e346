use Rattle.std.proofs.Common.{◌≡◌, ◌++◌, ℕ, List, length}
use Rattle.bar_pool.specs.Places.{StandAt}
use Rattle.bar_pool.proofs.places.fill.Given as goal

abbrev pub invariant-fill : goal.invariant-fill
invariant-fill g l = record {
  length : length l.places.items ≡ length l.initial.places.items;
  done : (done : List (ℕ × g.row.T.Denot)) × (l.fn.numbered.items ≡ l.numbered.items ++ done) × StandAt done l.places.items;
}

abbrev pub decreases-fill : goal.decreases-fill
decreases-fill g l = goal.left-fill g l
