use Rattle.std.proofs.Common.{ℕ, ◌-◌, ◌<◌, ◌≤◌}
use Rattle.std.specs.Prelude.{slice_index}
use Rattle.performance_prepare.specs.Parted.{parted_cost}
use Rattle.performance_prepare.proofs.NearKeys.{AreAdded}
use Rattle.performance_prepare.proofs.groups.add_partings.Given as goal

abbrev pub invariant-partings : goal.invariant-partings
invariant-partings l = record {
  added : AreAdded (parted_cost l.struck l.held) l.initial.costs l.costs l.border;
  few : (k : ℕ) → k < 129 → slice_index l.costs k ≤ 17500000;
  within : l.border ≤ 256;
}

abbrev pub decreases-partings : goal.decreases-partings
decreases-partings l = 129 - l.border
