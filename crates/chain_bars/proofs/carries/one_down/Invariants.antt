use Rattle.std.proofs.Common.{◌≡◌, ◌++◌, ◌*◌, ◌-◌, ◌≤◌}
use Rattle.std.specs.Prelude.{drop}
use Rattle.chain_bars.specs.Walks.{descended, refined}
use Rattle.chain_bars.proofs.carries.one_down.Given as goal

abbrev pub invariant-nodes : goal.invariant-nodes
invariant-nodes l = (1 ≤ l.number) × (l.counts.items ++ refined (drop (2 * (l.number - 1)) l.nodes) l.from (drop l.number l.above) ≡ descended l.nodes l.above)
