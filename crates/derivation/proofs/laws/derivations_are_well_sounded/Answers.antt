use Rattle.derivation.proofs.WellSounding.{well_sounded}
use Rattle.derivation.proofs.laws.derivations_are_well_sounded.Goals as goal

pub returns : goal.returns
returns c = well_sounded
