use Rattle.std.proofs.Common.{◌<◌, ◌++◌, List, ℕ, length, map, All, sym, ap, subst, ◌∙◌}
use Rattle.rhythm_base.specs.Readable.{IsBody}
use Rattle.std.specs.List.{flat_map}
use Rattle.rhythm_base.specs.Grammar.{Grammar}
use Rattle.rhythm_base.specs.declared.rule.Rule.{Rule}
use Rattle.grammar_file.proofs.PrintLemmas.{printed_parts, sides_of_rules}
use Rattle.grammar_file.specs.Printed.{header_words, line_text, rule_words, start_words}
use Rattle.grammar_file.proofs.print.print_grammar.Goals as goal

pub push_rules-requires-clause-sides : goal.push_rules-requires-clause-sides
push_rules-requires-clause-sides c =
    let g : Grammar = c.args.grammar.now in
    let names = c.deref-3.ensures.value ∙ ap (λ g. g.names) c.grammar.view_is in
    let rules = c.deref-4.ensures.value ∙ ap (λ g. g.rules) c.grammar.view_is in
    let P : List Rule → Type 0 = λ rs. All (λ r. r.lhs < length g.names) rs in
    let Q : List (List ℕ) → Type 0 = λ ns. All (λ r. r.lhs < length ns) c.deref-4.result.now in
    subst Q (sym names) (subst P (sym rules) (sides_of_rules g.rules (length g.names) c.requires.left_sides))

pub push_rules-requires-clause-bodies : goal.push_rules-requires-clause-bodies
push_rules-requires-clause-bodies c =
    let g : Grammar = c.args.grammar.now in
    let names = c.deref-3.ensures.value ∙ ap (λ g. g.names) c.grammar.view_is in
    let rules = c.deref-4.ensures.value ∙ ap (λ g. g.rules) c.grammar.view_is in
    let P : List Rule → Type 0 = λ rs. All (λ r. IsBody g.version (length g.names) r.body) rs in
    let Q : List (List ℕ) → Type 0 = λ ns. All (λ r. IsBody g.version (length ns) r.body) c.deref-4.result.now in
    (g.version, subst Q (sym names) (subst P (sym rules) c.requires.bodies))

pub returns : goal.returns
returns c =
    let g : Grammar = c.args.grammar.now in
    let names = c.deref.ensures.value ∙ ap (λ g. g.names) c.grammar.view_is in
    let starts = c.deref-2.ensures.value ∙ ap (λ g. g.starts) c.grammar.view_is in
    let names-again = c.deref-3.ensures.value ∙ ap (λ g. g.names) c.grammar.view_is in
    let rules = c.deref-4.ensures.value ∙ ap (λ g. g.rules) c.grammar.view_is in
    printed_parts g c.push_header.new.text.items c.push_starts.new.text.items c.push_rules.new.text.items
    (c.in_ok-push_header.ensures ∙ ap (λ t. t ++ flat_map line_text (header_words g)) c.new-text.ensures.items)
    (c.in_ok-push_starts.ensures ∙ ap (λ ns. c.push_header.new.text.items ++ flat_map line_text (map (start_words ns) c.deref-2.result.now)) names
    ∙ ap (λ xs. c.push_header.new.text.items ++ flat_map line_text (map (start_words g.names) xs)) starts)
    (c.in_ok-push_rules.ensures ∙ ap (λ ns. c.push_starts.new.text.items ++ flat_map line_text (map (rule_words ns) c.deref-4.result.now)) names-again
    ∙ ap (λ xs. c.push_starts.new.text.items ++ flat_map line_text (map (rule_words g.names) xs)) rules)
