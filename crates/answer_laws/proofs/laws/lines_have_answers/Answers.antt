use Rattle.answer_laws.proofs.Lines.{some_answer}
use Rattle.answer_laws.proofs.laws.lines_have_answers.Goals as goal

pub returns : goal.returns
returns c = λ g p line readable. some_answer g readable p line
