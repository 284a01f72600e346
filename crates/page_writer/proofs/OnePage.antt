-- A score has one page.
use Rattle.std.proofs.Common.{List, refl, sym, ap, ◌∙◌}
use Rattle.notation.proofs.ScoreGroups.{some_written, written_one}
use Rattle.notation.specs.Notes.{Group}
use Rattle.page_writer.specs.Laws.{PagesAreOne, PagesExist}
use Rattle.page_writer.specs.Page.{page_lines}
use Rattle.score_words.specs.TextLines.{lines_text}

pub pages_one : PagesAreOne
pages_one s channels a b score (written, each, is) (other, too, same) =
    is ∙ ap (λ (w : List (List (List Group))). lines_text (page_lines s channels w)) (written_one s score written other each too) ∙ sym same

pub some_page : PagesExist
some_page s channels score = let groups = some_written s score in (lines_text (page_lines s channels groups.0), (groups.0, groups.1, refl))
