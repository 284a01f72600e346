use Rattle.best_trees.specs.Suited.{AreAllSuited}
use Rattle.best_trees.proofs.agenda.Agenda.ask_each.Given as goal

abbrev pub invariant-pieces : goal.invariant-pieces
invariant-pieces l = AreAllSuited l.bar.grammar.now.rules l.self.suited
