use Rattle.answer_laws.proofs.Reached.{some_reached}
use Rattle.answer_laws.proofs.laws.reached_cells_exist.Goals as goal

pub returns : goal.returns
returns c = some_reached
