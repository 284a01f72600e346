use Rattle.best_trees.specs.Nodes.{AreFound}
use Rattle.best_trees.proofs.agenda.Agenda.search.Given as goal

abbrev pub invariant-asked : goal.invariant-asked
invariant-asked l = AreFound l.bar l.memo.found.items
