use Rattle.best_trees.specs.Suited.{AreAllSuited}
use Rattle.best_trees.proofs.agenda.Agenda.ask_parts.Given as goal

abbrev pub invariant-rules : goal.invariant-rules
invariant-rules l = AreAllSuited l.bar.grammar.now.rules l.self.suited
