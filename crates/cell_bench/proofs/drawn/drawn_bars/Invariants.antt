use Rattle.std.specs.Prelude.{◌≡◌, All}
use Rattle.rhythm_base.specs.BarInput.{BarInput}
use Rattle.cell_bench.proofs.drawn.drawn_bars.Given as goal

abbrev pub invariant-bars : goal.invariant-bars
invariant-bars l = All (λ (b : BarInput). b.resolution ≡ l.resolution) l.bars.items
