use Rattle.best_trees.specs.Nodes.{AreFound}
use Rattle.best_trees.proofs.bar.best_trees.Given as goal

abbrev pub invariant-widths : goal.invariant-widths
invariant-widths l = AreFound l.bar l.memo.found.items
