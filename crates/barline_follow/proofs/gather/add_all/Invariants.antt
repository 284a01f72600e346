use Rattle.std.proofs.Common.{List, ◌+◌, ◌++◌, map, take}
use Rattle.std.specs.Prelude.{All, Option}
use Rattle.rhythm_base.specs.Lists.{Each}
use Rattle.barline_follow.specs.Barring.{Barring, Course}
use Rattle.barline_follow.specs.Gathered.{IsGathered}
use Rattle.barline_follow.specs.Longer.{draft_of}
use Rattle.barline_follow.specs.NextBars.{IsCourseOf}
use Rattle.barline_follow.specs.Rounds.{Found, IsFound}
use Rattle.barline_follow.proofs.gather.add_all.Given as goal

abbrev pub invariant-lists : goal.invariant-lists
invariant-lists l =
    (best : Option Barring) (found : List Found) (courses : List Course) → IsGathered best found courses l.initial.round
    → (more : List Found) × (others : List Course)
    × Each (IsFound l.next.grammar.now l.next.performance.now) (map draft_of (take l.list-index l.lists)) more
    × All (IsCourseOf l.next (l.next.number + 1)) others × IsGathered best (found ++ more) (courses ++ others) l.round
