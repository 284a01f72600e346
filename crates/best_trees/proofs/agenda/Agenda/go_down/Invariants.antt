use Rattle.best_trees.specs.Suited.{AreAllSuited}
use Rattle.best_trees.proofs.agenda.Agenda.go_down.Given as goal

abbrev pub invariant-asked : goal.invariant-asked
invariant-asked l = AreAllSuited l.bar.grammar.now.rules l.self.suited
