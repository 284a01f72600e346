use Rattle.std.proofs.Common.{◌≡◌, ◌++◌, ◌*◌, ◌/◌, ◌≤◌, length, vec_capacity}
use Rattle.std.specs.Prelude.{drop, min}
use Rattle.rhythm_base.specs.Counter.{risen}
use Rattle.chain_bars.specs.Tower.{level_above}
use Rattle.chain_bars.proofs.levels.Level.paired.Given as goal

abbrev pub invariant-pairs : goal.invariant-pairs
invariant-pairs g l =
    (l.nodes.items ++ level_above (drop (2 * l.number) l.self.nodes) ≡ level_above l.self.nodes) × (length l.nodes.items ≡ l.number) × (l.count ≤ vec_capacity l.nodes)
    × (l.products ≡ risen l.fn.products (min l.number (length l.self.nodes / 2)))
