use Rattle.tree_laws.proofs.Locality.{dead-pass, pass-dead}
use Rattle.tree_laws.proofs.laws.dead_bars_are_by_counts.Goals as goal

pub returns : goal.returns
returns c = λ g bars cs i voice. (λ h. let by = dead-pass g bars cs i voice h in (h.bar, by.0, by.1), λ h. pass-dead g bars cs i voice h.0 h.1 h.2)
