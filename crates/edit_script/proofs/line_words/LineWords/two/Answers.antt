use Rattle.std.proofs.Common.{◌∷◌, [], sym, subst}
use Rattle.edit_script.specs.ScriptLines.{Are}
use Rattle.rhythm_base.specs.Numerals.{IsNumber}
use Rattle.edit_script.proofs.WordLemmas.{finds_none, first_is, rest_are}
use Rattle.edit_script.proofs.line_words.LineWords.two.Goals as goal

pub returns-in_err-number-clause-words : goal.returns-in_err-number-clause-words
returns-in_err-number-clause-words c = finds_none _ c.from_residual.result c.from_residual.ensures (λ n are. c.in_err-number.ensures.first n.0 (first_is (IsNumber c.args.first n.0) (IsNumber c.args.second n.1 ∷ []) c.args.self.now are))

pub returns-in_err-last-clause-words : goal.returns-in_err-last-clause-words
returns-in_err-last-clause-words c =
    finds_none _ c.from_residual-in_err-last.result c.from_residual-in_err-last.ensures (λ n are.
    c.in_err-last.ensures.words n.1
    (subst (Are (IsNumber c.args.second n.1 ∷ [])) (sym c.number.ensures.after) (rest_are (IsNumber c.args.first n.0) (IsNumber c.args.second n.1 ∷ []) c.args.self.now are)))
