use Rattle.answer_laws.proofs.Desks.{begins_open}
use Rattle.answer_laws.proofs.laws.desks_begin_open.Goals as goal

pub returns : goal.returns
returns c = begins_open
