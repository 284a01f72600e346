use Rattle.std.proofs.Common.{◌≡◌, ◌≤◌, take}
use Rattle.performance_prepare.specs.Tempo.{bar_parts}
use Rattle.performance_prepare.proofs.tempo.bar_parts.Given as goal

abbrev pub invariant-loop-signature : goal.invariant-loop-signature
invariant-loop-signature l = record {
  value : l.most ≡ bar_parts (take l.signature-index l.signatures);
  some : 1 ≤ l.most;
  few : l.most ≤ 16;
}
