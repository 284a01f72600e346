use Rattle.std.proofs.Common.{ℕ, ◌≡◌, ◌<◌, length, take}
use Rattle.std.specs.Prelude.{slice_index}
use Rattle.performance_prepare.specs.Sides.{keys_at}
use Rattle.performance_prepare.proofs.middle.counts_of.Given as goal

abbrev pub invariant-loop-key : goal.invariant-loop-key
invariant-loop-key l = record {
  each : (key : ℕ) → key < 128 → slice_index l.counts key ≡ length (keys_at key (take l.key-index l.keys));
  long : length l.counts ≡ 128;
}
