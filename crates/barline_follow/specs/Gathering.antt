-- What is gathered of the lists of a front with a bar more.
use Rattle.std.specs.Prelude.{◌+◌, ◌++◌, List, Option, Result, All, OnOk}
use Rattle.rhythm_base.specs.Lists.{Each}
use Rattle.barline_follow.specs.declared.next_bar.NextBar.{NextBar}
use Rattle.barline_follow.specs.Barring.{Barring, Course}
use Rattle.barline_follow.specs.Gathered.{IsGathered, Round}
use Rattle.barline_follow.specs.NextBars.{IsCourseOf}
use Rattle.barline_follow.specs.Rounds.{Draft, Found, IsFound}

-- these longer lists are gathered besides what was gathered
abbrev pub GathersMore : {A E : Type 0} → NextBar → List Draft → Round → Result A E → Round → Type 0
GathersMore next drafts old result new =
    (best : Option Barring) (found : List Found) (courses : List Course) → IsGathered best found courses old
    → OnOk result ((more : List Found) × (others : List Course)
    × Each (IsFound next.grammar.now next.performance.now) drafts more
    × All (IsCourseOf next (next.number + 1)) others × IsGathered best (found ++ more) (courses ++ others) new)

-- all these longer lists are gathered
abbrev pub GathersAll : NextBar → List Draft → Option Barring → Round → Type 0
GathersAll next drafts best round =
    (found : List Found) × (courses : List Course) × Each (IsFound next.grammar.now next.performance.now) drafts found
    × All (IsCourseOf next (next.number + 1)) courses × IsGathered best found courses round
