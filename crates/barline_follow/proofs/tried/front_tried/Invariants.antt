use Rattle.std.proofs.Common.{map, take}
use Rattle.rhythm_base.specs.Lists.{Each}
use Rattle.barline_follow.specs.NextBars.{AreTriedOffers}
use Rattle.barline_follow.proofs.tried.front_tried.Given as goal

abbrev pub invariant-lists : goal.invariant-lists
invariant-lists l = Each (AreTriedOffers l.next) (take l.course-index l.front) (map (λ own. own.items) l.all.items)
