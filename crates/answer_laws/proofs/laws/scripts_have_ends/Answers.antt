use Rattle.script_run.specs.Editing.{begun_on}
use Rattle.answer_laws.proofs.Desks.{some_end}
use Rattle.answer_laws.proofs.laws.scripts_have_ends.Goals as goal

pub returns : goal.returns
returns c = λ desk lines. some_end lines (begun_on desk)
