-- The laws, each as one statement over the definitions.
use Rattle.std.specs.Prelude.{◌≡◌, ◌⊎◌, ℕ, ◌+◌, ◌*◌, ◌≤◌, List, [], All, Option, Some, length}
use Rattle.rhythm_base.specs.declared.edit.Edit.{Edit}
use Rattle.rhythm_base.specs.declared.limits.TheConstants.{LATEST_TICK, MOST_BARS}
use Rattle.rhythm_base.specs.EditRanges.{IsEditInRange}
use Rattle.rhythm_base.specs.Grammar.{Grammar}
use Rattle.rhythm_base.specs.Performance.{IsWellFormed, Performance}
use Rattle.barline_follow.specs.declared.offers.Offer.{Offer}
use Rattle.barline_follow.specs.Answer.{AreChosen, IsAnswer}
use Rattle.barline_follow.specs.Bars.{with_barlines}
use Rattle.barline_follow.specs.Barring.{Barring}
use Rattle.barline_follow.specs.Builds.{AreMostBuilt, AreReachedInTurn, most_lengths, most_tables}
use Rattle.barline_follow.specs.Gain.{Gains}
use Rattle.barline_follow.specs.HeadCost.{IsHeadCost}
use Rattle.barline_follow.specs.Offers.{AreOffers}
use Rattle.barline_follow.specs.Rounds.{Draft, Found, IsBest, IsFound, IsNextFront}
use Rattle.barline_follow.specs.Searched.{AreBuiltInSearch, AreBuiltToFollow}
use Rattle.barline_follow.specs.Script.{IsOfBars, Leads, first_barlines, last_barlines, script}

-- a bar has one list of offers
abbrev pub OffersAreOne : Type 0
OffersAreOne =
    (g : Grammar) (p : Performance) (i before : ℕ) (a b : List Offer) → AreOffers g p i before a → AreOffers g p i before b → a ≡ b

-- and few of them
abbrev pub OffersAreFew : Type 0
OffersAreFew = (g : Grammar) (p : Performance) (i before : ℕ) (offers : List Offer) → AreOffers g p i before offers → length offers ≤ most_lengths i

-- those that go on have one next front
abbrev pub FrontsAreOne : Type 0
FrontsAreOne = (best : Option Barring) (bs a b : List Barring) → IsNextFront best bs a → IsNextFront best bs b → a ≡ b

-- barlines have one head cost
abbrev pub HeadCostsAreOne : Type 0
HeadCostsAreOne = (g : Grammar) (p : Performance) (ticks : List ℕ) (a b : ℕ) → IsHeadCost g p ticks a → IsHeadCost g p ticks b → a ≡ b

-- a list comes to one thing
abbrev pub FoundAreOne : Type 0
FoundAreOne = (g : Grammar) (p : Performance) (d : Draft) (a b : Found) → IsFound g p d a → IsFound g p d b → a ≡ b

-- a performance has one best list, or none
abbrev pub BestsAreOne : Type 0
BestsAreOne = (g : Grammar) (p : Performance) (a b : Option Barring) → IsBest g p a → IsBest g p b → a ≡ b

-- and one answer
abbrev pub BarlinesAreOne : Type 0
BarlinesAreOne = (g : Grammar) (p : Performance) (a b : List Edit) → IsAnswer g p a → IsAnswer g p b → a ≡ b

-- on a performance without pins an answer is nothing, or gains: what it costs after the script, with the prices of the best's bars, is at
-- most seven tenths of what it costs before
abbrev pub AnswersGain : Type 0
AnswersGain =
    (g : Grammar) (p : Performance) (edits : List Edit) → IsWellFormed p → p.pins ≡ [] → IsAnswer g p edits
    → (edits ≡ []) ⊎ ((best : Barring) × IsBest g p (Some best) × Gains g p best.prices edits)

-- edits that are accepted in turn lead to one performance
abbrev pub EditsLeadToOne : Type 0
EditsLeadToOne =
    (g : Grammar) (p : Performance) (edits : List Edit) (a b : Performance) → Leads g p edits a → Leads g p edits b → a ≡ b

-- the lines of a script are in range, where there are no more bars than a performance may have, and no barline that the stages begin
-- at or lead to is past the latest tick
abbrev pub ScriptsAreInRange : Type 0
ScriptsAreInRange =
    (p : Performance) (goal : List ℕ) → IsWellFormed p → length goal ≤ MOST_BARS + 1
    → All (λ tick. tick ≤ LATEST_TICK) (first_barlines p goal) → All (λ tick. tick ≤ LATEST_TICK) (last_barlines p goal)
    → All IsEditInRange (script p goal)

-- an accepted script sets the barlines that it leads to, on a performance without pins, and changes nothing else
abbrev pub ScriptsSetBarlines : Type 0
ScriptsSetBarlines =
    (g : Grammar) (p q : Performance) (goal : List ℕ) → IsWellFormed p → p.pins ≡ [] → 2 ≤ length goal → Leads g p (script p goal) q
    → q ≡ with_barlines p goal

-- edits reach one number of cells in turn; the search builds one number of tables, and so do it and the trial of its script; and one number
-- is the most that are built
pub record MostBuiltAreOne : Type 0 where
  pub searched : (g : Grammar) (p : Performance) (m n : ℕ) → AreBuiltInSearch g p m → AreBuiltInSearch g p n → m ≡ n
  pub followed : (g : Grammar) (p : Performance) (m n : ℕ) → AreBuiltToFollow g p m → AreBuiltToFollow g p n → m ≡ n
  pub reached : (g : Grammar) (p : Performance) (edits : List Edit) (m n : ℕ) → AreReachedInTurn g p edits m → AreReachedInTurn g p edits n → m ≡ n
  pub most : (g : Grammar) (p : Performance) (m n : ℕ) → AreMostBuilt g p m → AreMostBuilt g p n → m ≡ n

-- Edits of bars reach in turn at most two cells of each voice for each of them; so, besides the tables of the search, at most two for each
-- voice and each line of the script are built.
pub record FewAreReached : Type 0 where
  pub reached : (g : Grammar) (p : Performance) (edits : List Edit) (n : ℕ) → All IsOfBars edits → AreReachedInTurn g p edits n
      → n ≤ length edits * (2 * length p.channels)
  pub built : (g : Grammar) (p : Performance) (tables : ℕ) (ticks : List ℕ) → AreMostBuilt g p tables → AreChosen g p ticks
      → tables ≤ most_tables p + length (script p ticks) * (2 * length p.channels)
