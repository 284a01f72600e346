use Rattle.std.proofs.Common.{◌≡◌, ◌+◌, ◌*◌, ◌≤◌, drop}
use Rattle.std.specs.Prelude.{sum_by}
use Rattle.durations.specs.Value.{width}
use Rattle.kern_reader.specs.Events.{tied_values}
use Rattle.kern_reader.proofs.events.tie_length.Given as goal

abbrev pub invariant-tokens : goal.invariant-tokens
invariant-tokens l = record {
  same : l.total + sum_by (width l.grid) (tied_values (drop l.token-index l.tokens)) ≡ sum_by (width l.grid) (tied_values l.tokens);
  few : l.total ≤ 7 * l.grid * l.token-index;
}
