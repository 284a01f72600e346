use Rattle.outcome_laws.proofs.Writings.{some_writing}
use Rattle.outcome_laws.proofs.laws.writings_exist.Goals as goal

pub returns : goal.returns
returns c = λ form g p readable formed. some_writing g p readable formed form
