use Rattle.grammar_file.proofs.SayableLemmas.{is_sayable}
use Rattle.grammar_file.proofs.laws.said_grammars_are_readable.Goals as goal

pub returns : goal.returns
returns c = λ text g says. (is_sayable text g says).readable
