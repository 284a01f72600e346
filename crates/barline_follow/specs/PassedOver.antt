-- Which lists of a round change nothing, whatever a bar more costs.
use Rattle.std.specs.Prelude.{◌≡◌, ◌⊎◌, ℕ, ◌+◌, ◌<◌, ◌≤◌, ◌++◌, Bool, true, false, List, [], ◌∷◌, All, Contains, drop, length, take, Option, Some, if◌then◌else◌}
use Rattle.bar_pool.specs.Costs.{AreAllCosts}
use Rattle.bar_pool.specs.declared.order.AskedCell.{AskedCell}
use Rattle.barline_follow.specs.declared.next_bar.NextBar.{NextBar}
use Rattle.barline_follow.specs.Barring.{Barring, Course, barring_end, barring_value, course_end, course_value}
use Rattle.barline_follow.specs.Gathered.{IsGathered, Round}
use Rattle.barline_follow.specs.Longer.{Longer, draft_of}
use Rattle.barline_follow.specs.NextBars.{IsCourseOf, IsTried, asked_cells}
use Rattle.barline_follow.specs.Rounds.{Found, IsFound}

-- The round has what comes before each list of at least this value that ends at the tick. Of closed lists that is the best. Else it is one
-- that is kept at the tick, or as many as are kept, all of them below the value.
abbrev pub RulesOut : Bool → ℕ → ℕ → Round → Type 0
RulesOut true tick low r = (b : Barring) × (r.best ≡ Some b) × (barring_value b ≤ low)
RulesOut false tick low r =
    ((k : Course) × Contains r.kept k × (course_end k ≡ tick) × (course_value k ≤ low))
    ⊎ ((length r.kept ≡ 24) × All (λ k. course_value k < low) r.kept)

-- what is found of one more list changes nothing of the round, nor of any that has gathered more
abbrev pub ChangesNothing : Round → Found → List Course → Type 0
ChangesNothing r own going_own =
    (best : Option Barring) (found more : List Found) (courses others : List Course) (now : Round)
    → IsGathered best found courses r → IsGathered best (found ++ more) (courses ++ others) now
    → IsGathered best ((found ++ more) ++ (own ∷ [])) ((courses ++ others) ++ going_own) now

-- the list with a bar more comes to what changes nothing of the round
abbrev pub IsPassedOver : NextBar → Round → Longer → Type 0
IsPassedOver next r l =
    (own : Found) × (going_own : List Course) × IsFound next.grammar.now next.performance.now (draft_of l) own
    × All (IsCourseOf next (next.number + 1)) going_own × ChangesNothing r own going_own

-- a list of the front with a bar that is tried of it
pub record IsLonger (next : NextBar) (l : Longer) : Type 0 where
  pub course : IsCourseOf next next.number l.course
  pub tried : IsTried next (barring_end l.course.barring) l.offer

-- it is passed over, or what its bar costs is known in the first v voices
pub record IsWeighed (next : NextBar) (r : Round) (v : ℕ) (l : Longer) : Type 0 where
  pub longer : IsLonger next l
  pub out : l.is_out ≡ true → IsPassedOver next r l
  pub known : l.is_out ≡ false → AreAllCosts next.grammar.now (take v (asked_cells next l.course l.offer)) l.costs

-- nothing is known of it, and it is not passed over
pub record IsUntried (next : NextBar) (l : Longer) : Type 0 where
  pub longer : IsLonger next l
  pub still : l.is_out ≡ false
  pub none : l.costs ≡ []

-- the cell of its bar in voice v, if it is not passed over
abbrev pub cells_in : NextBar → ℕ → Longer → List AskedCell
cells_in next v l = if l.is_out then [] else take 1 (drop v (asked_cells next l.course l.offer))
