use Rattle.tree_laws.proofs.Locality.{locality, locality-back, locality-cost}
use Rattle.tree_laws.proofs.laws.bars_are_local.Goals as goal

pub returns : goal.returns
returns c = record {
  counts = λ g bars cs ts voice. (locality g bars cs ts voice, λ h. locality-back g bars cs ts voice h.0 h.1 h.2);
  costs = λ g bars cs ts voice. locality-cost g bars cs ts voice;
}
