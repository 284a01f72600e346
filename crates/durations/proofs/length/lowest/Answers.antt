use Rattle.durations.proofs.LowestTerms.{divided, divisor_of}
use Rattle.durations.proofs.length.lowest.Goals as goal

pub nonzero_div-result : goal.nonzero_div-result
nonzero_div-result c = divisor_of _ _ _ c.requires c.gcd-divisor.ensures

pub nonzero_div-result-2 : goal.nonzero_div-result-2
nonzero_div-result-2 c = divisor_of _ _ _ c.requires c.gcd-divisor.ensures

pub returns : goal.returns
returns c = divided _ _ _ c.requires c.gcd-divisor.ensures
