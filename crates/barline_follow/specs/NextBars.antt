-- The bar that lists get in a round.
use Rattle.std.specs.Prelude.{◌≡◌, ◌≢◌, ℕ, ◌+◌, ◌*◌, ◌<◌, ◌≤◌, Bool, true, false, not, ◌&&◌, nat_le, List, filter, map, Option, Some, None}
use Rattle.std.specs.List.{flat_map, list_any, zip}
use Rattle.barline_follow.specs.declared.next_bar.NextBar.{NextBar}
use Rattle.barline_follow.specs.declared.offers.Offer.{Offer}
use Rattle.barline_follow.specs.declared.heads.Heads.{Heads}
use Rattle.bar_pool.specs.declared.order.AskedCell.{AskedCell}
use Rattle.rhythm_base.specs.declared.chord.Chord.{Chord}
use Rattle.barline_follow.specs.Costs.{asked_after}
use Rattle.rhythm_base.specs.declared.limits.TheConstants.{LATEST_TICK, MOST_BARS}
use Rattle.rhythm_base.specs.BarInput.{BarInput}
use Rattle.edit_laws.specs.Edits.{is_past}
use Rattle.rhythm_base.specs.Grammar.{root_of}
use Rattle.rhythm_base.specs.Lists.{Each}
use Rattle.rhythm_base.specs.Performance.{IsWellFormed}
use Rattle.rhythm_base.specs.Readable.{IsReadable}
use Rattle.rhythm_base.specs.Voices.{AreChordsOf}
use Rattle.barline_follow.specs.Bars.{pattern_of}
use Rattle.barline_follow.specs.Barring.{Barring, Course, barring_end, last_length}
use Rattle.barline_follow.specs.Gathered.{barring_of}
use Rattle.barline_follow.specs.Rounds.{IsRound}
use Rattle.barline_follow.specs.Searched.{AreBuiltInRound}
use Rattle.barline_follow.specs.Offers.{AreOffers}
use Rattle.barline_follow.specs.Courses.{IsCourse, cell, dearest_bar}

-- what it says of itself holds: these are the voices; the bar is like this one, and may have a root symbol; and a list is closed from this
-- tick on
pub record IsNextBar (next : NextBar) : Type 0 where
  pub readable : IsReadable next.grammar.now
  pub formed : IsWellFormed next.performance.now
  pub chords : Each (AreChordsOf next.grammar.now next.performance.now) next.performance.now.channels next.voices.now
  pub few : next.number < 2 * MOST_BARS
  pub like : pattern_of next.performance.now next.number ≡ Some next.like
  pub rooted : next.is_rooted ≡ true → root_of next.grammar.now.starts next.like.num next.like.den ≢ None
  pub rootless : next.is_rooted ≡ false → root_of next.grammar.now.starts next.like.num next.like.den ≡ None
  pub closing : (end : ℕ) → not (list_any (is_past end) next.performance.now.notes) ≡ nat_le next.closing end

abbrev pub IsCourseOf : NextBar → ℕ → Course → Type 0
IsCourseOf next bars t = IsCourse next.grammar.now next.performance.now next.voices.now bars t

-- a bar of this length after a barline can be: it has a root symbol, and ends by the latest tick
abbrev pub can_be : NextBar → ℕ → Offer → Bool
can_be next start o = next.is_rooted && nat_le (start + o.ticks) LATEST_TICK

-- what is tried of a list: those bars of its offers that can be
abbrev pub AreTriedOffers : NextBar → Course → List Offer → Type 0
AreTriedOffers next course tried =
    (offers : List Offer) × AreOffers next.grammar.now next.performance.now next.number (last_length course.barring.ticks) offers
    × (tried ≡ filter (can_be next (barring_end course.barring)) offers)

-- such a bar
pub record IsTried (next : NextBar) (start : ℕ) (o : Offer) : Type 0 where
  pub rooted : next.is_rooted ≡ true
  pub some : 1 ≤ o.ticks
  pub early : start + o.ticks ≤ LATEST_TICK
  pub price : o.price ≤ dearest_bar

-- the input of the bar of each voice
abbrev pub cells : NextBar → ℕ → Offer → List BarInput
cells next start o = map (cell next.grammar.now next.like start (start + o.ticks)) next.voices.now

-- the inputs of all bars that are tried, of each list of the front in its order
abbrev pub all_cells : NextBar → List Course → List (List Offer) → List BarInput
all_cells next front tried = flat_map (λ pair. flat_map (cells next (barring_end pair.0.barring)) pair.1) (zip front tried)

-- the cell of a voice, of which the costs are asked for by what its list costs up to there
abbrev pub asked_cell : NextBar → ℕ → ℕ → List Chord × Heads → AskedCell
asked_cell next start end own = record { input = cell next.grammar.now next.like start end own.0; asked = asked_after own.1.costs }

-- the cell of the bar of each voice after a list
abbrev pub asked_cells : NextBar → Course → Offer → List AskedCell
asked_cells next course o =
    map (asked_cell next (barring_end course.barring) (barring_end course.barring + o.ticks)) (zip next.voices.now course.heads)

-- ---- the round of it

-- what the round leads to, from the lists of a front and the best so far
abbrev pub IsRoundOf : NextBar → List Course → Option Barring → List Course → Option Barring → Type 0
IsRoundOf next front best longer longer_best =
    IsRound next.grammar.now next.performance.now next.number (map barring_of front) best (map barring_of longer) longer_best

-- how many tables it builds
abbrev pub AreBuiltInRoundOf : NextBar → List Course → ℕ → Type 0
AreBuiltInRoundOf next front tables =
    AreBuiltInRound next.grammar.now next.performance.now next.number (map barring_of front) tables
