use Rattle.std.proofs.Common.{◌∙◌}
use Rattle.grammar_file.proofs.LineLemmas.{without_return-none, without_return-some}
use Rattle.grammar_file.proofs.line.without_return.Goals as goal

pub returns-in-Some : goal.returns-in-Some
returns-in-Some c = c.in-Some.ensures.cases.1 ∙ without_return-some c.args.line.now c.in-Some.ensures.cases.0

pub returns-in-None : goal.returns-in-None
returns-in-None c = without_return-none c.args.line.now c.in-None.ensures.cases
