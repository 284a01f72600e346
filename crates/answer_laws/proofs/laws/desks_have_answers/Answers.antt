use Rattle.answer_laws.proofs.Desks.{desk_answer}
use Rattle.answer_laws.proofs.laws.desks_have_answers.Goals as goal

pub returns : goal.returns
returns c = desk_answer
