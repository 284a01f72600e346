use Rattle.std.proofs.Common.{◌≡◌, ◌≤◌, length}
use Rattle.performance_prepare.specs.Parted.{AreRaised}
use Rattle.performance_prepare.proofs.groups.raise.Given as goal

abbrev pub invariant-borders : goal.invariant-borders
invariant-borders l = record {
  raised : AreRaised l.first l.border l.more l.initial.costs l.costs;
  past : l.first ≤ l.border;
  long : length l.costs ≡ 129;
}
