use Rattle.std.proofs.Common.{◌∷◌, ◌++◌, List, ℕ, sym, ap, ◌∙◌}
use Rattle.std.proofs.lemmas.Result.{on_ok_weaker}
use Rattle.std.proofs.lemmas.List.{append_assoc}
use Rattle.std.specs.List.{flat_map, join_with_byte}
use Rattle.std.specs.Prelude.{codes, decimal}
use Rattle.grammar_file.proofs.PrintLemmas.{parts_text, split_text}
use Rattle.grammar_file.specs.Printed.{body_words, symbol_name}
use Rattle.grammar_file.proofs.print.push_body.Goals as goal

pub returns-in_ok-push-in-Split : goal.returns-in_ok-push-in-Split
returns-in_ok-push-in-Split c =
    let names : List (List ℕ) = c.args.names.now in
    let text : List ℕ = c.args.text.now.items in
    on_ok_weaker c.push_names.result
    (λ e. e ∙ ap (λ t. t ++ flat_map (λ s. 32 ∷ symbol_name names s) c.as_slice.result.now) c.in_ok-push-in-Split.ensures ∙ append_assoc text (codes "split") _
    ∙ ap (λ kids. text ++ (codes "split" ++ flat_map (λ s. 32 ∷ symbol_name names s) kids)) c.as_slice.ensures
    ∙ ap (λ t. text ++ t) (split_text names c.in-Split.kids)
    ∙ ap (λ body. text ++ join_with_byte 32 (body_words names body)) (sym c.in-Split.is))
    c.push_names.ensures

pub returns-in_ok-push-in-Parts : goal.returns-in_ok-push-in-Parts
returns-in_ok-push-in-Parts c =
    let names : List (List ℕ) = c.args.names.now in
    let text : List ℕ = c.args.text.now.items in
    on_ok_weaker c.push_parts.result
    (λ e. e ∙ ap (λ t. t ++ flat_map (λ q. 32 ∷ (decimal q.0 ++ 32 ∷ symbol_name names q.1)) c.as_slice-in-Parts.result.now) c.in_ok-push-in-Parts.ensures ∙ append_assoc text (codes "parts") _
    ∙ ap (λ parts. text ++ (codes "parts" ++ flat_map (λ q. 32 ∷ (decimal q.0 ++ 32 ∷ symbol_name names q.1)) parts)) c.as_slice-in-Parts.ensures
    ∙ ap (λ t. text ++ t) (parts_text names c.in-Parts.parts)
    ∙ ap (λ body. text ++ join_with_byte 32 (body_words names body)) (sym c.in-Parts.is))
    c.push_parts.ensures
