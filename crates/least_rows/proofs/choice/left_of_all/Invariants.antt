use Rattle.std.proofs.Common.{◌≡◌}
use Rattle.least_rows.specs.Choices.{left_below}
use Rattle.least_rows.proofs.choice.left_of_all.Given as goal

abbrev pub invariant-tos : goal.invariant-tos
invariant-tos l = l.limit ≡ left_below l.best l.to l.cut
