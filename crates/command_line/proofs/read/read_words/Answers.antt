use Rattle.command_line.proofs.Ranges.{words_ranged}
use Rattle.command_line.proofs.read.read_words.Goals as goal

pub returns-clause-options : goal.returns-clause-options
returns-clause-options c = words_ranged _ c.in_ok-line.line c.in_ok-line.ensures.ok
