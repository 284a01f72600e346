use Rattle.std.proofs.Common.{ℕ, ◌≡◌, ◌*◌, ◌<◌, ◌≤◌, length}
use Rattle.std.specs.Prelude.{slice_index}
use Rattle.rhythm_base.specs.Lists.{gap}
use Rattle.performance_prepare.proofs.groups.places.Given as goal

abbrev pub invariant-borders : goal.invariant-borders
invariant-borders l = record {
  each : (k : ℕ) → k < l.border → slice_index l.costs k ≡ length l.struck * gap k l.middle;
  long : length l.costs ≡ 129;
  few : (k : ℕ) → k < l.border → slice_index l.costs k ≤ 17000000;
}
