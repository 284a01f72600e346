use Rattle.std.proofs.Common.{ℕ, ◌≤◌, ◌*◌, ◌<◌, ◌^◌, length}
use Rattle.std.specs.Prelude.{min}
use Rattle.rhythm_base.specs.Counter.{risen}
use Rattle.chain_bars.specs.Tower.{level, level_of}
use Rattle.chain_bars.proofs.Sides.{IsBefore, IsAfter}
use Rattle.chain_bars.proofs.around.around_of.Given as goal

abbrev pub invariant-up : goal.invariant-up
invariant-up g l =
    (l.place < length (level_of (level l.levels 0) l.below)) × IsBefore (level l.levels 0) l.at l.below l.place l.before × IsAfter (level l.levels 0) l.at l.below l.place l.after
    × ((d : ℕ) → length (level l.levels 0) ≤ 2 ^ d → l.products ≤ risen l.fn.products (2 * min l.below d)) × (l.fn.products ≤ l.products)
