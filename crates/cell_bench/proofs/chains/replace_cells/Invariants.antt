use Rattle.std.specs.Prelude.{◌≡◌, length}
use Rattle.cell_bench.proofs.chains.replace_cells.Given as goal

abbrev pub invariant-times : goal.invariant-times
invariant-times l = length l.chain.cells ≡ length l.cells
