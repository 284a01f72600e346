-- A list of the front with a bar more, as far as it is known what this bar costs.
use Rattle.std.specs.Prelude.{Bool, false, List, [], map}
use Rattle.std.specs.List.{flat_map, zip}
use Rattle.least_cost.specs.declared.costs.BarCosts.{BarCosts}
use Rattle.barline_follow.specs.declared.offers.Offer.{Offer}
use Rattle.barline_follow.specs.Barring.{Course}
use Rattle.barline_follow.specs.Rounds.{Draft, with_bar}

-- the list, the bar that is tried of it, what this bar costs in the first voices, and whether it is passed over
pub record Longer : Type 0 where
  pub course : Course
  pub offer : Offer
  pub costs : List BarCosts
  pub is_out : Bool

abbrev pub draft_of : Longer → Draft
draft_of l = with_bar l.course.barring l.offer

-- a list with a bar of which no cost is known
abbrev pub untried : Course → Offer → Longer
untried course o = record { course = course; offer = o; costs = []; is_out = false }

-- each list of the front in its order, with each bar that is tried of it
abbrev pub all_longer : List Course → List (List Offer) → List Longer
all_longer front tried = flat_map (λ pair. map (untried pair.0) pair.1) (zip front tried)
