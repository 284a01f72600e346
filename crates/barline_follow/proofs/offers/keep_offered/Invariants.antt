use Rattle.std.proofs.Common.{List, ◌++◌, take}
use Rattle.std.specs.Prelude.{filter}
use Rattle.barline_follow.specs.declared.offers.Offer.{Offer}
use Rattle.barline_follow.specs.Least.{AreFirstLeast}
use Rattle.barline_follow.specs.Offers as prices
use Rattle.barline_follow.proofs.offers.keep_offered.Given as goal

abbrev pub invariant-proposals : goal.invariant-proposals
invariant-proposals l =
    (xs : List Offer) → AreFirstLeast (λ o. o.price) (λ o. o.ticks) xs l.initial.offers.items
    → AreFirstLeast (λ o. o.price) (λ o. o.ticks) (xs ++ filter (prices.is_offered l.whole) (take l.proposal-index l.proposals)) l.offers.items
