use Rattle.std.proofs.Common.{◌+◌, ap}
use Rattle.rhythm_base.specs.Cost.{sequence_of, weights}
use Rattle.rhythm_base.specs.Leaves.{voice_leaves}
use Rattle.tree_laws.proofs.Costs.{charges-even}
use Rattle.tree_laws.proofs.laws.one_weight_is_as_before.Goals as goal

pub returns : goal.returns
returns c = λ g bars cs ts onset early late. ap (λ n. weights g (sequence_of ts) + n) (charges-even g onset (voice_leaves g bars ts) cs early late)
