use Rattle.std.proofs.Common.{◌∷◌, ◌++◌, List, ℕ, ap, ◌∙◌, append_assoc, decimal}
use Rattle.std.specs.List.{flat_map}
use Rattle.std.proofs.lemmas.Result.{on_ok_weaker}
use Rattle.script_writer.proofs.WordSplits.{written_words}
use Rattle.script_writer.proofs.edit_text.push_words.Goals as goal

pub returns : goal.returns
returns c =
    let old : List ℕ = c.args.text.now.items in
    let name : List ℕ = c.args.name.now in
    let numbers : List ℕ = c.args.numbers.now in
    let later : List ℕ = flat_map (λ n. 32 ∷ decimal n) numbers in
    on_ok_weaker c.push_numbers.result
    (λ is. is ∙ ap (λ text. text ++ later) c.in_ok-extend_from_slice.ensures.items ∙ append_assoc old name later
    ∙ ap (λ text. old ++ text) (written_words name numbers))
    c.push_numbers.ensures
