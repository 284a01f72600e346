use Rattle.std.proofs.Common.{ℕ, ◌<◌, get_or}
use Rattle.barline_follow.specs.Barring.{Course, course_value}
use Rattle.barline_follow.proofs.round.are_all_below.Given as goal

abbrev pub invariant-kept : goal.invariant-kept
invariant-kept l = (k : ℕ) (d : Course) → k < l.course-index → course_value (get_or l.kept k d) < l.low
