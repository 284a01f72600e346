use Rattle.grammar_file.proofs.ReadBack.{read_back}
use Rattle.grammar_file.proofs.SayableLemmas.{is_sayable}
use Rattle.grammar_file.proofs.laws.printed_grammars_are_read_back.Goals as goal

pub returns-clause-sayable : goal.returns-clause-sayable
returns-clause-sayable c = read_back

pub returns-clause-said : goal.returns-clause-said
returns-clause-said c = λ text g says. read_back g (is_sayable text g says)
