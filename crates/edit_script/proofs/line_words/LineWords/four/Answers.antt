use Rattle.std.proofs.Common.{◌∷◌, [], sym, subst}
use Rattle.edit_script.specs.ScriptLines.{Are}
use Rattle.rhythm_base.specs.Numerals.{IsNumber}
use Rattle.edit_script.proofs.WordLemmas.{finds_none, first_is, rest_are}
use Rattle.edit_script.proofs.line_words.LineWords.four.Goals as goal

pub returns-in_err-number-clause-words : goal.returns-in_err-number-clause-words
returns-in_err-number-clause-words c = finds_none _ c.from_residual.result c.from_residual.ensures (λ n are. c.in_err-number.ensures.first n.0 (first_is (IsNumber c.args.first n.0) (IsNumber c.args.second n.1 ∷ IsNumber c.args.third n.2 ∷ IsNumber c.args.fourth n.3 ∷ []) c.args.self.now are))

pub returns-in_err-next-clause-words : goal.returns-in_err-next-clause-words
returns-in_err-next-clause-words c =
    finds_none _ c.from_residual-in_err-next.result c.from_residual-in_err-next.ensures (λ n are.
    c.in_err-next.ensures.words (n.1, n.2, n.3)
    (subst (Are (IsNumber c.args.second n.1 ∷ IsNumber c.args.third n.2 ∷ IsNumber c.args.fourth n.3 ∷ [])) (sym c.number.ensures.after) (rest_are (IsNumber c.args.first n.0) (IsNumber c.args.second n.1 ∷ IsNumber c.args.third n.2 ∷ IsNumber c.args.fourth n.3 ∷ []) c.args.self.now are)))
