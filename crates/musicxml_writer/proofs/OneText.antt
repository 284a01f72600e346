-- A score has one text.
use Rattle.std.proofs.Common.{List, refl, sym, ap, ◌∙◌}
use Rattle.notation.proofs.ScoreGroups.{some_written, written_one}
use Rattle.notation.specs.Notes.{Group}
use Rattle.musicxml_writer.specs.Laws.{TextsAreOne, TextsExist}
use Rattle.musicxml_writer.specs.Text.{score_text}

pub texts_one : TextsAreOne
texts_one s channels a b score (written, each, is) (others, too, same) =
    is ∙ ap (λ (w : List (List (List Group))). score_text s channels w) (written_one s score written others each too) ∙ sym same

pub some_text : TextsExist
some_text s channels score = let groups = some_written s score in (score_text s channels groups.0, (groups.0, groups.1, refl))
