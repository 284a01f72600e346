use Rattle.std.proofs.Common.{◌∷◌, [], ◌++◌, List, ℕ, ap, ◌∙◌}
use Rattle.std.proofs.lemmas.Result.{on_ok_weaker}
use Rattle.std.specs.Prelude.{codes, decimal}
use Rattle.grammar_file.proofs.PrintLemmas.{four_pieces}
use Rattle.grammar_file.specs.Printed.{line_text}
use Rattle.grammar_file.proofs.print.push_header.Goals as goal

pub returns : goal.returns
returns c =
    let line : List ℕ → ℕ → List ℕ = λ word number. line_text (word ∷ decimal number ∷ []) in
    let version = c.from.ensures ∙ ap (λ g. g.version) c.grammar.view_is in
    let resolution = c.from-2.ensures ∙ ap (λ g. g.resolution) c.grammar.view_is in
    on_ok_weaker c.push_weights.result
    (λ e. four_pieces c.args.text.now.items _ _ _ _ _ _ _ _
    (c.in_ok-push_line.ensures ∙ ap (λ n. c.args.text.now.items ++ line (codes "rhythm") n) version)
    (c.in_ok-push_line-2.ensures ∙ ap (λ n. c.push_line.new.text.items ++ line (codes "resolution") n) resolution)
    (c.in_ok-push_line-3.ensures ∙ ap (λ g. c.push_line-2.new.text.items ++ line (codes "window") g.window) c.grammar.view_is) e)
    c.push_weights.ensures
