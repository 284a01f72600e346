use Rattle.std.specs.Prelude.{◌≡◌}
use Rattle.cell_bench.proofs.chains.chain_of.Given as goal

abbrev pub invariant-times : goal.invariant-times
invariant-times l = l.chain.cells ≡ l.cells
