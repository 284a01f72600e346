use Rattle.std.proofs.Common.{sym, ap, ◌∙◌}
use Rattle.std.proofs.lemmas.List.Splits.{join_with_byte-slice_split}
use Rattle.std.specs.List.{join_with_byte}
use Rattle.std.specs.Prelude.{option_map}
use Rattle.edit_script.specs.LineWords.{words_in}
use Rattle.edit_script.proofs.line_words.LineWords.text.Goals as goal

pub returns-in-Some : goal.returns-in-Some
returns-in-Some c =
    sym (join_with_byte-slice_split 32 c.in-Some.text.now)
    ∙ ap (λ rest. join_with_byte 32 (words_in (option_map (λ x. x.now) rest))) (sym c.in-Some.is)
    ∙ ap (join_with_byte 32) c.self.view_is
