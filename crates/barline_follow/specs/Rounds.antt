-- The search for barlines: round after round each list of a front is lengthened by a bar, and few of the longer ones are kept.
use Rattle.std.specs.Prelude.{◌≡◌, ℕ, zero, suc, ◌+◌, ◌*◌, ◌≤◌, true, false, List, [], ◌∷◌, ◌++◌, filter, length, map, take, Option, Some, None}
use Rattle.std.specs.List.{filter_map, flat_map, zip}
use Rattle.rhythm_base.specs.Grammar.{Grammar}
use Rattle.rhythm_base.specs.declared.limits.TheConstants.{LATEST_TICK}
use Rattle.rhythm_base.specs.Lists.{Each, last_end}
use Rattle.rhythm_base.specs.Performance.{Performance}
use Rattle.rhythm_base.specs.Voices.{IsCostOf}
use Rattle.barline_follow.specs.declared.offers.Offer.{Offer}
use Rattle.barline_follow.specs.Bars.{is_closed, with_barlines}
use Rattle.barline_follow.specs.HeadCost.{IsHeadCost}
use Rattle.barline_follow.specs.Barring.{Barring, best_of, barring_end, is_below, last_length, barring_value}
use Rattle.barline_follow.specs.Least.{AreFirstLeast}
use Rattle.barline_follow.specs.Offers.{AreOffers}

-- barlines, and the sum of the prices of their bars
pub record Draft : Type 0 where
  pub ticks : List ℕ
  pub prices : ℕ

-- ---- longer lists

-- a bar of the offer's length after the others
abbrev pub with_bar : Barring → Offer → Draft
with_bar b o = record { ticks = b.ticks ++ ((barring_end b + o.ticks) ∷ []); prices = b.prices + o.price }

-- each of these lists in its order, with a bar by each of its offers in their order
abbrev pub rows : List Barring → List (List Offer) → List Draft
rows front offers = flat_map (λ pair. map (with_bar pair.0) pair.1) (zip front offers)

-- the lists of the front with a bar i by each of its offers
pub record AreLonger (g : Grammar) (p : Performance) (i : ℕ) (front : List Barring) (drafts : List Draft) : Type 0 where
  pub offers : List (List Offer)
  pub are_offers : Each (λ b own. AreOffers g p i (last_length b.ticks) own) front offers
  pub are : drafts ≡ rows front offers

-- what a longer list comes to: it is lost; it goes on; or it is whole
pub data Found : Type 0 where
  lost : Found
  going : Barring → Found
  whole : Barring → Found

-- a list that is not closed goes on at this cost, where it is not past the latest tick: it is the head cost
pub record IsOpenAt (g : Grammar) (p : Performance) (ticks : List ℕ) (c : ℕ) : Type 0 where
  pub open_end : is_closed p ticks ≡ false
  pub early : last_end 0 ticks ≤ LATEST_TICK
  pub cost : IsHeadCost g p ticks c

-- a closed list is whole at this cost, where it is not past the latest tick: it is what the performance with its barlines costs, so the
-- cost of trees that no chord leaves
pub record IsWholeAt (g : Grammar) (p : Performance) (ticks : List ℕ) (c : ℕ) : Type 0 where
  pub closed_end : is_closed p ticks ≡ true
  pub early : last_end 0 ticks ≤ LATEST_TICK
  pub cost : IsCostOf g (with_barlines p ticks) c

abbrev pub at_cost : Draft → ℕ → Barring
at_cost d c = record { ticks = d.ticks; prices = d.prices; cost = c }

abbrev pub IsFound : Grammar → Performance → Draft → Found → Type 0
IsFound g p d lost = (c : ℕ) → (IsOpenAt g p d.ticks c → ⊥) × (IsWholeAt g p d.ticks c → ⊥)
IsFound g p d (going b) = (c : ℕ) × IsOpenAt g p d.ticks c × (b ≡ at_cost d c)
IsFound g p d (whole b) = (c : ℕ) × IsWholeAt g p d.ticks c × (b ≡ at_cost d c)

abbrev pub going_on : Found → Option Barring
going_on lost = None
going_on (going b) = Some b
going_on (whole b) = None

abbrev pub whole_one : Found → Option Barring
whole_one lost = None
whole_one (going b) = None
whole_one (whole b) = Some b

-- ---- the next front

-- of those that go on the first of least value at each last barline; of these the first 24, without those whose value is not below
-- the best's
abbrev pub IsNextFront : Option Barring → List Barring → List Barring → Type 0
IsNextFront best bs front = (kept : List Barring) × AreFirstLeast barring_value barring_end bs kept × (front ≡ filter (is_below best) (take 24 kept))

-- ---- rounds

-- no bar yet
abbrev pub no_bars : Barring
no_bars = record { ticks = 0 ∷ []; prices = 0; cost = 0 }

module _ (g : Grammar) (p : Performance) where
  -- round i leads from a front and the best so far to the next front and the best
  pub record IsRound (i : ℕ) (front : List Barring) (best : Option Barring) (next : List Barring) (next_best : Option Barring) : Type 0 where
    pub drafts : List Draft
    pub longer : AreLonger g p i front drafts
    pub found : List Found
    pub each : Each (IsFound g p) drafts found
    pub best_is : next_best ≡ best_of best (filter_map whole_one found)
    pub next_is : IsNextFront next_best (filter_map going_on found) next

  -- at most so many rounds, from round i on, come to this best. They end where the front is empty
  abbrev pub ComeTo : ℕ → ℕ → List Barring → Option Barring → Option Barring → Type 0
  ComeTo zero i front best last = last ≡ best
  ComeTo (suc rounds) i [] best last = last ≡ best
  ComeTo (suc rounds) i (b ∷ front) best last =
      (next : List Barring) × (next_best : Option Barring) × IsRound i (b ∷ front) best next next_best × ComeTo rounds (suc i) next next_best last

  -- the best of all rounds: at most two for each bar of the performance
  abbrev pub IsBest : Option Barring → Type 0
  IsBest best = ComeTo (2 * length p.bars) 0 (no_bars ∷ []) None best
