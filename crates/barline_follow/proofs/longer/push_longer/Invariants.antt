use Rattle.std.proofs.Common.{◌≡◌, ◌++◌, map, take}
use Rattle.barline_follow.specs.Longer.{untried}
use Rattle.barline_follow.proofs.longer.push_longer.Given as goal

abbrev pub invariant-offers : goal.invariant-offers
invariant-offers l = l.lists.items ≡ l.initial.lists.items ++ map (untried l.course) (take l.offer-index l.tried)
