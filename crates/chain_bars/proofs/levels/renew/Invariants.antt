use Rattle.std.proofs.Common.{ℕ, ◌≤◌, ◌-◌, ◌^◌, length}
use Rattle.std.specs.Prelude.{min, slice_set}
use Rattle.rhythm_base.specs.Counter.{risen}
use Rattle.chain_bars.proofs.Changes.{IsRenewing}
use Rattle.chain_bars.specs.Tower.{level}
use Rattle.chain_bars.proofs.levels.renew.Given as goal

abbrev pub invariant-up : goal.invariant-up
invariant-up g l =
    IsRenewing (level l.fn.levels 0) (slice_set (level l.fn.levels 0) l.at l.cell) l.fn.levels l.levels l.above l.place × (1 ≤ l.above)
    × ((d : ℕ) → length (level l.fn.levels 0) ≤ 2 ^ d → l.products ≤ risen l.fn.products (min (l.above - 1) d)) × (l.fn.products ≤ l.products)
