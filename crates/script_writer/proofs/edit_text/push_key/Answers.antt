use Rattle.std.proofs.Common.{[], ◌∷◌, ◌++◌, List, ℕ, ap, ◌∙◌, append_assoc}
use Rattle.std.proofs.lemmas.Result.{on_ok_weaker}
use Rattle.script_writer.specs.EditText.{named_numbers, key_line, spaced_numbers}
use Rattle.script_writer.proofs.WordSplits.{more_written}
use Rattle.script_writer.proofs.edit_text.push_key.Goals as goal

pub returns : goal.returns
returns c =
    let old : List ℕ = c.args.text.now.items in
    let name : List ℕ = c.args.name.now in
    let ticks : List ℕ = c.args.ticks.now in
    let front : List ℕ = c.from.result ∷ c.from-2.result ∷ [] in
    on_ok_weaker c.push_numbers.result
    (λ is. is ∙ ap (λ text. text ++ spaced_numbers ticks) c.in_ok-push_words.ensures ∙ append_assoc old (named_numbers name front) (spaced_numbers ticks)
    ∙ ap (λ text. old ++ text) (more_written name front ticks)
    ∙ ap (λ n. old ++ key_line name n c.from-2.result ticks) c.from.ensures ∙ ap (λ n. old ++ key_line name c.args.channel n ticks) c.from-2.ensures)
    c.push_numbers.ensures
