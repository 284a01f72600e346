use Rattle.std.proofs.Common.{◌≡◌}
use Rattle.rhythm_base.specs.Ranked.{at, pick, sum_before, summed}
use Rattle.carry_matrix.specs.Choices.{choice_code}
use Rattle.carry_matrix.proofs.products.chosen.Given as goal

abbrev pub invariant-counts : goal.invariant-counts
invariant-counts l = l.best ≡ choice_code (pick sum_before (λ m. summed (at l.a l.from m) (at l.b m l.place)) l.middle)
