use Rattle.std.proofs.Common.{ℕ, ◌<◌, []}
use Rattle.std.specs.Prelude.{slice_index_or}
use Rattle.rhythm_base.specs.Paths.{IsRanked}
use Rattle.chain_bars.proofs.levels.see_all.Given as goal

abbrev pub invariant-cells : goal.invariant-cells
invariant-cells l = (k : ℕ) → k < l.number → IsRanked (slice_index_or l.cells k [])
