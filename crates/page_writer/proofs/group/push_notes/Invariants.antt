use Rattle.std.proofs.Common.{◌≡◌, ◌++◌, drop}
use Rattle.page_writer.specs.Groups.{notes_words}
use Rattle.page_writer.specs.Words.{words_text}
use Rattle.page_writer.proofs.group.push_notes.Given as goal

abbrev pub invariant-notes : goal.invariant-notes
invariant-notes l =
    l.text.items ++ words_text (notes_words l.sf l.graces_written (drop l.note-index l.notes))
    ≡ l.initial.text.items ++ words_text (notes_words l.sf l.initial.graces_written l.notes)
