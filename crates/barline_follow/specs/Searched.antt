-- How many tables the search for barlines counts as built: in each round one for each voice and each bar that is tried, also where the bar
-- can change nothing of the round and is passed over.
use Rattle.std.specs.Prelude.{◌≡◌, ℕ, zero, suc, ◌+◌, ◌*◌, Bool, false, ◌&&◌, nat_le, is_some, List, [], ◌∷◌, filter, length, Option, Some, None}
use Rattle.rhythm_base.specs.declared.limits.TheConstants.{LATEST_TICK}
use Rattle.rhythm_base.specs.declared.note.Bar.{Bar}
use Rattle.rhythm_base.specs.Grammar.{Grammar, root_of}
use Rattle.rhythm_base.specs.Lists.{Each}
use Rattle.rhythm_base.specs.Performance.{Performance}
use Rattle.barline_follow.specs.declared.offers.Offer.{Offer}
use Rattle.barline_follow.specs.Answer.{AreChosen}
use Rattle.barline_follow.specs.Bars.{pattern_of}
use Rattle.barline_follow.specs.Barring.{Barring, barring_end, last_length}
use Rattle.barline_follow.specs.Builds.{AreReachedInTurn}
use Rattle.barline_follow.specs.Offers.{AreOffers}
use Rattle.barline_follow.specs.Rounds.{IsRound, no_bars}
use Rattle.barline_follow.specs.Script.{script}

-- the grammar has a root symbol for the signature of the bar
abbrev pub has_root : Grammar → Option Bar → Bool
has_root g None = false
has_root g (Some bar) = is_some (root_of g.starts bar.num bar.den)

module _ (g : Grammar) (p : Performance) where
  -- a bar i of the offer's length after these barlines is tried: there is a root symbol for it, and it ends by the latest tick
  abbrev pub is_tried : ℕ → Barring → Offer → Bool
  is_tried i b o = has_root g (pattern_of p i) && nat_le (barring_end b + o.ticks) LATEST_TICK

  -- how many bars are tried after these lists, by their offers
  abbrev pub tried_bars : ℕ → List Barring → List (List Offer) → ℕ
  tried_bars i [] offers = 0
  tried_bars i (b ∷ front) [] = 0
  tried_bars i (b ∷ front) (own ∷ offers) = length (filter (is_tried i b) own) + tried_bars i front offers

  -- round i counts a table for each voice and each bar that is tried after a list of the front
  pub record AreBuiltInRound (i : ℕ) (front : List Barring) (tables : ℕ) : Type 0 where
    pub offers : List (List Offer)
    pub are_offers : Each (λ b own. AreOffers g p i (last_length b.ticks) own) front offers
    pub are : tables ≡ tried_bars i front offers * length p.channels

  -- at most so many rounds, from round i on, build so many tables together
  abbrev pub AreBuiltInRounds : ℕ → ℕ → List Barring → Option Barring → ℕ → Type 0
  AreBuiltInRounds zero i front best tables = tables ≡ 0
  AreBuiltInRounds (suc rounds) i [] best tables = tables ≡ 0
  AreBuiltInRounds (suc rounds) i (b ∷ front) best tables =
      (next : List Barring) × (next_best : Option Barring) × (own others : ℕ) × IsRound g p i (b ∷ front) best next next_best
      × AreBuiltInRound i (b ∷ front) own × AreBuiltInRounds rounds (suc i) next next_best others × (tables ≡ own + others)

  -- all rounds
  abbrev pub AreBuiltInSearch : ℕ → Type 0
  AreBuiltInSearch tables = AreBuiltInRounds (2 * length p.bars) 0 (no_bars ∷ []) None tables

  -- the search and the trial of its script: a table for each cell that the lines to the chosen barlines reach in turn
  abbrev pub AreBuiltToFollow : ℕ → Type 0
  AreBuiltToFollow tables =
      (searched : ℕ) × (ticks : List ℕ) × (reached : ℕ) × AreBuiltInSearch searched × AreChosen g p ticks
      × AreReachedInTurn g p (script p ticks) reached × (tables ≡ searched + reached)
