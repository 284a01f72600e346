use Rattle.rhythm_base.specs.Ranked.{identity_entries}
use Rattle.carry_matrix.proofs.matrix.CarryMatrix.identity.Goals as goal

pub returns : goal.returns
unfolding identity_entries
returns c = c.make.ensures
