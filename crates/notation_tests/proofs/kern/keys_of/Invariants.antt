use Rattle.std.proofs.Common.{◌≤◌, ◌<◌, ◌^◌}
use Rattle.notation_tests.proofs.kern.keys_of.Given as goal

abbrev pub invariant-keys : goal.invariant-keys
invariant-keys l = record {
  some : 0 < l.key-index → 1 ≤ l.set;
  few : l.set < 2 ^ 128;
}
