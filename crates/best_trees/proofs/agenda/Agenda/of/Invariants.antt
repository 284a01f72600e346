use Rattle.best_trees.specs.Suited.{AreAllSuited}
use Rattle.best_trees.proofs.agenda.Agenda.of.Given as goal

abbrev pub invariant-levels : goal.invariant-levels
invariant-levels l = AreAllSuited l.bar.grammar.now.rules l.agenda.suited
