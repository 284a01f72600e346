use Rattle.std.proofs.Common.{◌≡◌, ◌++◌, take}
use Rattle.std.specs.List.{flat_map}
use Rattle.notes_writer.specs.NotesText.{key_record}
use Rattle.notes_writer.proofs.notes_text.push_key_marks.Given as goal

abbrev pub invariant-marks : goal.invariant-marks
invariant-marks l = l.text.items ≡ l.initial.text.items ++ flat_map key_record (take l.mark-index l.key_marks)
