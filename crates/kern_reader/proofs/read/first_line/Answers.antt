use Rattle.std.proofs.Common.{rules, tests, arith, refl, sym, ◌∙◌, ◌==◌, ◌+◌}
use Rattle.std.proofs.lemmas.Iterator.{YieldsList-from_slice}
use Rattle.std.proofs.lemmas.Iterator.Search.{position_from_yields_List}
use Rattle.std.proofs.lemmas.List.{take_rest}
use Rattle.rhythm_base.proofs.Positions.{position-found, position-missing, position-within}
use Rattle.text_words.proofs.LineLemmas.{lines_first, lines_last}
use Rattle.kern_reader.proofs.read.first_line.Goals as goal

pub returns-in-Some-clause-line : goal.returns-in-Some-clause-line
returns-in-Some-clause-line c =
    let found = position_from_yields_List (λ b. b == 10) _ _ c.position.result c.position.ensures.ran
    (YieldsList-from_slice c.args.text.now c.iter.ensures.rest) (λ x b q k. search (rules, tests)) in
    let at = position-found (λ b. b == 10) c.args.text.now _ (sym found ∙ c.in-Some.is) in
    let within = position-within (λ b. b == 10) c.args.text.now _ (sym found ∙ c.in-Some.is) in
    lines_first c.args.text.now (omega (arith, at, within)) ∙ rw (at, take_rest c.args.text.now (c.in-Some.end + 1)) refl

pub returns-in-None-clause-line : goal.returns-in-None-clause-line
returns-in-None-clause-line c =
    let found = position_from_yields_List (λ b. b == 10) _ _ c.position.result c.position.ensures.ran
    (YieldsList-from_slice c.args.text.now c.iter.ensures.rest) (λ x b q k. search (rules, tests)) in
    lines_last c.args.text.now c.requires (position-missing (λ b. b == 10) c.args.text.now (sym found ∙ c.in-None.is))
