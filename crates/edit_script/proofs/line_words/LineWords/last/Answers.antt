use Rattle.rhythm_base.specs.Numerals.{IsNumber}
use Rattle.edit_script.proofs.WordLemmas.{finds_none, first_is}
use Rattle.std.proofs.Common.{[]}
use Rattle.edit_script.proofs.line_words.LineWords.last.Goals as goal

pub returns-in_err-number-clause-words : goal.returns-in_err-number-clause-words
returns-in_err-number-clause-words c =
    finds_none _ c.from_residual.result c.from_residual.ensures (λ n are. c.in_err-number.ensures.first n (first_is (IsNumber c.args.most n) [] c.args.self.now are))
