use Rattle.std.proofs.Common.{◌≡◌}
use Rattle.rhythm_base.specs.Counter.{risen}
use Rattle.barline_follow.proofs.batch.count_passed.Given as goal

abbrev pub invariant-cells : goal.invariant-cells
invariant-cells g l = l.builds ≡ risen l.initial.builds l._cell
