use Rattle.std.proofs.Common.{subst, sym}
use Rattle.least_cost.specs.Tables.{AreCellTrees}
use Rattle.least_cost.proofs.build.build_pinned.Goals as goal

pub table_of-requires-clause-trees : goal.table_of-requires-clause-trees
table_of-requires-clause-trees c =
    let g = c.args.grammar.now in
    let k = c.args.input.now in
    let trees = c.in_ok-trees.trees in
    let h = c.in_ok-trees.ensures in
    let own : AreCellTrees g k trees.bests.rows trees.lists.rules.items trees.lists.ends = record { keys = h.keys; least = h.least; matrix = h.bests; lists = h.lists } in
    subst (λ rules. AreCellTrees g k trees.bests.rows rules trees.lists.ends) (sym c.as_slice.ensures.value) own
