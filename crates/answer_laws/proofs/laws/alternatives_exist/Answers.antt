use Rattle.answer_laws.proofs.Alternatives.{some_best}
use Rattle.answer_laws.proofs.laws.alternatives_exist.Goals as goal

pub returns : goal.returns
returns c = λ g p channel bar count readable. some_best g p readable.ranges.some_unit channel bar count
