use Rattle.std.proofs.Common.{ℕ, ◌≡◌, ◌+◌, ◌*◌, ◌<◌, ◌≤◌, length, take}
use Rattle.std.specs.Prelude.{slice_index}
use Rattle.performance_prepare.specs.Groups.{nearness}
use Rattle.performance_prepare.specs.Parted.{place_cost}
use Rattle.performance_prepare.proofs.groups.row.Given as goal

abbrev pub invariant-loop-key : goal.invariant-loop-key
invariant-loop-key l = record {
  costs : (k : ℕ) → k < 129 → slice_index l.costs k ≡ place_cost l.middle l.struck l.held k + nearness k (take l.key-index l.struck);
  long : length l.costs ≡ 129;
  low : (k : ℕ) → k < 129 → slice_index l.costs k ≤ 17500000 + 200 * l.key-index;
}
