use Rattle.best_trees.specs.Suited.{AreSuiting}
use Rattle.best_trees.proofs.suited.suiting.Given as goal

abbrev pub invariant-rules : goal.invariant-rules
invariant-rules l = AreSuiting l.grammar.rules (l.width, l.symbol) l.numbers.items 0 l.number
