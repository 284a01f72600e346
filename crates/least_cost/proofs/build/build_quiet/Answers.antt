use Rattle.std.proofs.Common.{subst, sym}
use Rattle.least_rows.specs.QuietTrees.{bar_trees}
use Rattle.least_cost.specs.Tables.{AreCellTrees}
use Rattle.least_cost.proofs.TableLists.{cell-trees}
use Rattle.least_cost.proofs.build.build_quiet.Goals as goal

pub table_of-requires-clause-trees : goal.table_of-requires-clause-trees
table_of-requires-clause-trees c =
    let g = c.args.grammar.now in
    let k = c.args.input.now in
    let own = c.in_ok-trees.trees in
    subst (λ rules. AreCellTrees g k own.bests.rows rules own.ends) (sym c.as_slice-rules.ensures.value) (cell-trees g k (bar_trees own c.quiet_trees.new.self.trees) c.requires.pin c.in_ok-trees.ensures)
