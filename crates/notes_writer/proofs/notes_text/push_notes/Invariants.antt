use Rattle.std.proofs.Common.{◌≡◌, ◌++◌, take}
use Rattle.std.specs.List.{flat_map}
use Rattle.notes_writer.specs.NotesText.{note_line}
use Rattle.notes_writer.proofs.notes_text.push_notes.Given as goal

abbrev pub invariant-notes : goal.invariant-notes
invariant-notes l = l.text.items ≡ l.initial.text.items ++ flat_map note_line (take l.note-index l.notes)
