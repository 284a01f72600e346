use Rattle.script_laws.proofs.OneAnswers.{answers_are_one}
use Rattle.script_laws.proofs.laws.answers_of_edits_are_one.Goals as goal

pub returns : goal.returns
returns c = answers_are_one
