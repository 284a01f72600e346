-- A round as far as its longer lists are gathered.
use Rattle.std.specs.Prelude.{◌≡◌, ◌≤◌, ◌++◌, List, [], ◌∷◌, Contains, OnOk, Result, length, map, Option}
use Rattle.std.specs.List.{filter_map}
use Rattle.barline_follow.specs.declared.round.Outcome.{Outcome}
use Rattle.barline_follow.specs.declared.round.Outcome.TheVariants.{Lost, Going, Whole}
use Rattle.barline_follow.specs.Barring.{Barring, Course, best_of, course_end, course_value}
use Rattle.barline_follow.specs.Least.{AreFewLeast}
use Rattle.barline_follow.specs.Rounds.{Found, IsNextFront, going, going_on, lost, whole, whole_one}

abbrev pub barring_of : Course → Barring
barring_of t = t.barring

-- what is found, without the costs of each voice
abbrev pub found_of : Outcome → Found
found_of Lost = lost
found_of (Going course) = going course.barring
found_of (Whole barring) = whole barring

-- those that are kept of the lists that go on, at most 24, and the best
pub record Round : Type 0 where
  pub kept : List Course
  pub best : Option Barring

-- these are gathered, with these lists that go on, where there was a best before
pub record IsGathered (best : Option Barring) (found : List Found) (courses : List Course) (r : Round) : Type 0 where
  pub best_is : r.best ≡ best_of best (filter_map whole_one found)
  pub are : map barring_of courses ≡ filter_map going_on found
  pub kept : AreFewLeast course_value course_end 24 courses r.kept

-- the list that goes on, where what is found is one
abbrev pub going_in : Outcome → List Course
going_in Lost = []
going_in (Going course) = course ∷ []
going_in (Whole barring) = []

-- ---- whatever was gathered

abbrev pub HasGathered : Round → Type 0
HasGathered r = (best : Option Barring) × (found : List Found) × (courses : List Course) × IsGathered best found courses r

-- what an outcome adds
abbrev pub GathersOne : {A E : Type 0} → Round → Outcome → Result A E → Round → Type 0
GathersOne old outcome result new =
    (best : Option Barring) (found : List Found) (courses : List Course) → IsGathered best found courses old
    → OnOk result (IsGathered best (found ++ found_of outcome ∷ []) (courses ++ going_in outcome) new)

-- what these lists are of all that was gathered: the next front, some of those that go on, and few
abbrev pub IsFrontOf : Round → List Course → Type 0
IsFrontOf r kept =
    (best : Option Barring) (found : List Found) (courses : List Course) → IsGathered best found courses r
    → IsNextFront r.best (filter_map going_on found) (map barring_of kept)

abbrev pub AreAmong : Round → List Course → Type 0
AreAmong r kept =
    (best : Option Barring) (found : List Found) (courses : List Course) → IsGathered best found courses r
    → (course : Course) → Contains kept course → Contains courses course

abbrev pub AreFew : Round → List Course → Type 0
AreFew r kept =
    (best : Option Barring) (found : List Found) (courses : List Course) → IsGathered best found courses r → length kept ≤ 24
