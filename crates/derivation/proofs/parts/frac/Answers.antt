use Rattle.std.proofs.Common.{◌*◌, ◌∙◌, subst, arith}
use Rattle.durations.specs.Values.{IsLowest}
use Rattle.derivation.proofs.parts.frac.Goals as goal
use Rattle.durations.proofs.FractionLemmas.{frac_of_lowest}

pub returns : goal.returns
returns c =
    frac_of_lowest c.args.parts (64 * c.args.resolution) _ _ (omega (arith, c.count.ensures.is, c.count.ensures.some))
    (subst (λ n. IsLowest c.args.parts (64 * n) c.lowest-length.result.parts c.lowest-length.result.whole) (c.from.ensures ∙ c.count.ensures.is) c.lowest-length.ensures)
