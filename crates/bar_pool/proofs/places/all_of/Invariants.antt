use Rattle.std.proofs.Common.{◌≡◌, ◌++◌, map, reverse, length, Some}
use Rattle.bar_pool.proofs.places.all_of.Given as goal

abbrev pub invariant-take : goal.invariant-take
invariant-take g l = l.fn.places.items ≡ l.places.items ++ map (λ t. Some t) (reverse l.things.items)

abbrev pub decreases-take : goal.decreases-take
decreases-take g l = length l.places.items
