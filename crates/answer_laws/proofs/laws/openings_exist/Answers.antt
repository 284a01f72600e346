use Rattle.answer_laws.proofs.Openings.{opening_or_fault}
use Rattle.answer_laws.proofs.laws.openings_exist.Goals as goal

pub returns : goal.returns
returns c = opening_or_fault
