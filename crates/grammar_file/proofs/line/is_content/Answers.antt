use Rattle.std.proofs.Common.{rules, tests, sym, ◌∙◌, not}
use Rattle.std.proofs.lemmas.Iterator.{YieldsList-from_slice}
use Rattle.std.proofs.lemmas.Iterator.Search.{position_from_yields_List}
use Rattle.rhythm_base.proofs.Positions.{position-found, position-missing, position-within}
use Rattle.grammar_file.proofs.LineLemmas.{says-at, says-nothing}
use Rattle.grammar_file.specs.Lines.{is_blank}
use Rattle.grammar_file.proofs.line.is_content.Goals as goal

pub returns-in-Some : goal.returns-in-Some
returns-in-Some c =
    let found = position_from_yields_List (λ b. not (is_blank b)) _ _ c.position.result c.position.ensures.ran
    (YieldsList-from_slice c.args.line.now c.iter.ensures.rest) (λ x b q k. search (rules, tests)) in
    let at = position-found (λ b. not (is_blank b)) c.args.line.now _ (sym found ∙ c.in-Some.is) in
    says-at c.args.line.now c.in-Some.first at (position-within (λ b. not (is_blank b)) c.args.line.now _ (sym found ∙ c.in-Some.is))

pub returns-in-None : goal.returns-in-None
returns-in-None c =
    let found = position_from_yields_List (λ b. not (is_blank b)) _ _ c.position.result c.position.ensures.ran
    (YieldsList-from_slice c.args.line.now c.iter.ensures.rest) (λ x b q k. search (rules, tests)) in
    says-nothing c.args.line.now (position-missing (λ b. not (is_blank b)) c.args.line.now (sym found ∙ c.in-None.is))
