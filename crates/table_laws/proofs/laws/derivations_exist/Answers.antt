use Rattle.table_laws.proofs.Derivations.{some_derivation}
use Rattle.table_laws.proofs.laws.derivations_exist.Goals as goal

pub returns : goal.returns
returns c = some_derivation
