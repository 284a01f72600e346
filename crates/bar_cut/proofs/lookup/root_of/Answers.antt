use Rattle.std.proofs.Common.{rules, tests, sym, ap, ◌∙◌, ◌==◌, ◌&&◌}
use Rattle.std.specs.Option.{option_map}
use Rattle.std.proofs.lemmas.Iterator.{YieldsList-from_slice}
use Rattle.std.proofs.lemmas.Iterator.Search.{find_from_yields_List}
use Rattle.bar_cut.proofs.Lookups.{root-find}
use Rattle.bar_cut.proofs.lookup.root_of.Goals as goal

pub returns-in_err-start : goal.returns-in_err-start
returns-in_err-start c =
    let found = find_from_yields_List (λ s. (s.num == c.args.num) && (s.den == c.args.den)) _ _ c.find.result c.find.ensures.ran
    (YieldsList-from_slice c.args.grammar.now.starts (search rules)) (λ x b q k. search (rules, tests)) in
    c.from_residual.ensures ∙ ap (λ o. option_map (λ s. s.symbol) (option_map (λ s. s.now) o)) (sym c.in_err-start.was)
    ∙ ap (λ o. option_map (λ s. s.symbol) o) found ∙ root-find c.args.grammar.now.starts c.args.num c.args.den

pub returns : goal.returns
returns c =
    let found = find_from_yields_List (λ s. (s.num == c.args.num) && (s.den == c.args.den)) _ _ c.find.result c.find.ensures.ran
    (YieldsList-from_slice c.args.grammar.now.starts (search rules)) (λ x b q k. search (rules, tests)) in
    ap (λ o. option_map (λ s. s.symbol) (option_map (λ s. s.now) o)) (sym c.in_ok-start.was)
    ∙ ap (λ o. option_map (λ s. s.symbol) o) found ∙ root-find c.args.grammar.now.starts c.args.num c.args.den
