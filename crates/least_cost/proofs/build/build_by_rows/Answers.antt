use Rattle.std.proofs.Common.{subst, sym}
use Rattle.least_cost.specs.Tables.{AreCellTrees}
use Rattle.least_cost.proofs.TableLists.{cell-trees}
use Rattle.least_cost.proofs.build.build_by_rows.Goals as goal

pub table_of-requires-clause-trees : goal.table_of-requires-clause-trees
table_of-requires-clause-trees c =
    let g = c.args.grammar.now in
    let k = c.args.input.now in
    let trees = c.search.new.self.trees in
    subst (λ rules. AreCellTrees g k trees.bests.rows rules trees.lists.ends) (sym c.as_slice.ensures.value) (cell-trees g k trees c.requires.pin c.in_ok-search.ensures)
