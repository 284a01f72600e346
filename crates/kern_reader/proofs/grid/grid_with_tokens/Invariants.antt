use Rattle.std.proofs.Common.{◌≡◌, ◌≤◌, drop}
use Rattle.std.specs.List.{flat_map}
use Rattle.durations.specs.declared.grid.TheConstants.{MOST_GRID}
use Rattle.kern_reader.specs.Columns.{grid_with, token_values}
use Rattle.kern_reader.proofs.grid.grid_with_tokens.Given as goal

abbrev pub invariant-tokens : goal.invariant-tokens
invariant-tokens l = record {
  same : grid_with l.finer (flat_map token_values (drop l.token-index l.tokens)) ≡ grid_with l.fn.grid (flat_map token_values l.tokens);
  few : l.finer ≤ MOST_GRID;
}
