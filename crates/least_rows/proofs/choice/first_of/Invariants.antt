use Rattle.least_rows.specs.Choices.{IsFirst}
use Rattle.least_rows.proofs.choice.first_of.Given as goal

abbrev pub invariant-tos : goal.invariant-tos
invariant-tos l = IsFirst l.best l.to l.first
