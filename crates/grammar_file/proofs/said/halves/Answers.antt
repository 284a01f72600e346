use Rattle.std.proofs.Common.{rules, tests, arith, sym, ◌∙◌, ap, take, drop, ◌==◌, ◌+◌}
use Rattle.std.proofs.lemmas.Iterator.{YieldsList-from_slice}
use Rattle.std.proofs.lemmas.Iterator.Search.{position_from_yields_List}
use Rattle.std.proofs.lemmas.List.{drop_all, take_all, take_rest}
use Rattle.rhythm_base.proofs.Positions.{position-found, position-missing}
use Rattle.grammar_file.proofs.said.halves.Goals as goal

pub returns-in-Some-clause-before : goal.returns-in-Some-clause-before
returns-in-Some-clause-before c =
    let found = position_from_yields_List (λ b. b == 47) _ _ c.position.result c.position.ensures.ran
    (YieldsList-from_slice c.args.word.now c.iter.ensures.rest) (λ x b q k. search (rules, tests)) in
    ap (λ n. take n c.args.word.now) (sym (position-found (λ b. b == 47) c.args.word.now _ (sym found ∙ c.in-Some.is)))

pub returns-in-Some-clause-after : goal.returns-in-Some-clause-after
returns-in-Some-clause-after c =
    let found = position_from_yields_List (λ b. b == 47) _ _ c.position.result c.position.ensures.ran
    (YieldsList-from_slice c.args.word.now c.iter.ensures.rest) (λ x b q k. search (rules, tests)) in
    take_rest c.args.word.now (c.in-Some.at + 1)
    ∙ ap (λ n. drop (n + 1) c.args.word.now) (sym (position-found (λ b. b == 47) c.args.word.now _ (sym found ∙ c.in-Some.is)))

pub returns-in-None-clause-before : goal.returns-in-None-clause-before
returns-in-None-clause-before c =
    let found = position_from_yields_List (λ b. b == 47) _ _ c.position.result c.position.ensures.ran
    (YieldsList-from_slice c.args.word.now c.iter.ensures.rest) (λ x b q k. search (rules, tests)) in
    sym (take_all _ c.args.word.now (position-missing (λ b. b == 47) c.args.word.now (sym found ∙ c.in-None.is)))

pub returns-in-None-clause-after : goal.returns-in-None-clause-after
returns-in-None-clause-after c =
    let found = position_from_yields_List (λ b. b == 47) _ _ c.position.result c.position.ensures.ran
    (YieldsList-from_slice c.args.word.now c.iter.ensures.rest) (λ x b q k. search (rules, tests)) in
    let missing = position-missing (λ b. b == 47) c.args.word.now (sym found ∙ c.in-None.is) in
    sym (drop_all _ c.args.word.now (omega arith))
