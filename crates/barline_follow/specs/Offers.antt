-- Which lengths are offered for the next bar, and at what price.
use Rattle.std.specs.Prelude.{ℕ, zero, suc, ◌+◌, ◌-◌, ◌*◌, ◌/◌, Bool, ◌&&◌, nat_le, List, [], ◌∷◌, filter, map, max}
use Rattle.std.specs.List.{flat_map, range_with_len}
use Rattle.rhythm_base.specs.Grammar.{Grammar}
use Rattle.rhythm_base.specs.Performance.{Performance}
use Rattle.barline_follow.specs.declared.offers.Offer.{Offer}
use Rattle.barline_follow.specs.Bars.{bar_step, whole_bar}
use Rattle.barline_follow.specs.Least.{AreFirstLeast}

-- the greater of the weights of an onset that is early and of one that is late
abbrev pub onset_weight : Grammar → ℕ
onset_weight g = max g.early g.late

-- the length that bar i has in the tempo of the bar before; the first bar is a whole bar
abbrev pub in_tempo : Performance → ℕ → ℕ → ℕ
in_tempo p zero before = whole_bar p 0
in_tempo p (suc i) before = (whole_bar p (suc i) * before) / whole_bar p i

-- how many steps a length is varied by: the first bar finds the tempo
abbrev pub most_steps : ℕ → ℕ
most_steps zero = 12
most_steps (suc i) = 3

-- a whole bar, and one in the tempo of the bar before, each k steps shorter and k steps longer. A length of 0 is never offered
abbrev pub proposed : ℕ → ℕ → ℕ → ℕ → ℕ → List Offer
proposed weight whole tempo step k = map (λ ticks. record { price = 6 * weight * (k * k); ticks = ticks })
    ((whole - k * step) ∷ (whole + k * step) ∷ (tempo - k * step) ∷ (tempo + k * step) ∷ [])

abbrev pub proposals_at : Grammar → Performance → ℕ → ℕ → ℕ → List Offer
proposals_at g p i before k = proposed (onset_weight g) (whole_bar p i) (in_tempo p i before) (bar_step p i) k

-- from a half to one and a half of a whole bar
abbrev pub is_offered : ℕ → Offer → Bool
is_offered whole o = nat_le whole (2 * o.ticks) && nat_le (2 * o.ticks) (3 * whole)

abbrev pub proposals : Grammar → Performance → ℕ → ℕ → List Offer
proposals g p i before = filter (is_offered (whole_bar p i)) (flat_map (proposals_at g p i before) (range_with_len 0 (most_steps i + 1)))

-- of these each length at its least price, by price and then by length
abbrev pub AreFirstOffers : List Offer → List Offer → Type 0
AreFirstOffers xs kept = AreFirstLeast (λ o. o.price) (λ o. o.ticks) xs kept

-- each length at its least price, by price and then by length
abbrev pub AreOffers : Grammar → Performance → ℕ → ℕ → List Offer → Type 0
AreOffers g p i before offers = AreFirstLeast (λ o. o.price) (λ o. o.ticks) (proposals g p i before) offers
