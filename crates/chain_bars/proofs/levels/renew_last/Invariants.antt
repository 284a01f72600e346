use Rattle.std.proofs.Common.{ℕ, ◌≤◌, ◌-◌, ◌^◌, length}
use Rattle.std.specs.Prelude.{min}
use Rattle.rhythm_base.specs.Counter.{risen}
use Rattle.chain_bars.specs.Endings.{HasNewEnd}
use Rattle.chain_bars.proofs.Changes.{IsChanging}
use Rattle.chain_bars.specs.Tower.{level}
use Rattle.chain_bars.proofs.levels.renew_last.Given as goal

abbrev pub invariant-renewal : goal.invariant-renewal
invariant-renewal g l =
    (h : HasNewEnd l.fn.levels) × IsChanging h.before (level l.fn.levels 0) l.fn.levels l.levels l.above × (1 ≤ l.above)
    × ((d : ℕ) → length (level l.fn.levels 0) ≤ 2 ^ d → l.products ≤ risen l.fn.products (min (l.above - 1) d)) × (l.fn.products ≤ l.products)
