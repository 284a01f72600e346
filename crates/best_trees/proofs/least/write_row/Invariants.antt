use Rattle.bar_trees.specs.WrittenLists.{list_number}
use Rattle.best_trees.specs.BarTrees.{AreFirstsWritten}
use Rattle.best_trees.proofs.least.write_row.Given as goal

abbrev pub invariant-counts : goal.invariant-counts
invariant-counts l = AreFirstsWritten l.grid l.written (list_number l.fn.from l.number)
