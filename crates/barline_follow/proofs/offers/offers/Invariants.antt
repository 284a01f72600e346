use Rattle.std.specs.Prelude.{filter}
use Rattle.std.specs.List.{flat_map, range_with_len}
use Rattle.barline_follow.specs.Least.{AreFirstLeast}
use Rattle.barline_follow.specs.Offers as prices
use Rattle.barline_follow.proofs.offers.offers.Given as goal

abbrev pub invariant-steps : goal.invariant-steps
invariant-steps l =
    AreFirstLeast (λ o. o.price) (λ o. o.ticks)
    (filter (prices.is_offered l.whole) (flat_map (prices.proposed l.weight l.whole l.tempo l.step) (range_with_len 0 l.steps))) l.offers.items
