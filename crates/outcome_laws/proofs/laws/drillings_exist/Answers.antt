use Rattle.outcome_laws.proofs.Drillings.{some_drilling}
use Rattle.outcome_laws.proofs.Pieces.{some_piece}
use Rattle.outcome_laws.proofs.laws.drillings_exist.Goals as goal

pub returns : goal.returns
returns c = record { pieces = some_piece; drills = λ number g p readable piece. some_drilling g number p readable piece }
