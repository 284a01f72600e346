use Rattle.std.proofs.Common.{◌≡◌, take}
use Rattle.script_writer.specs.EditText.{script_text}
use Rattle.script_writer.proofs.edit_text.write_edits.Given as goal

abbrev pub invariant-edits : goal.invariant-edits
invariant-edits l = l.text.items ≡ script_text (take l.edit-index l.edits)
