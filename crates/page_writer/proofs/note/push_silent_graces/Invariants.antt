use Rattle.std.proofs.Common.{◌≡◌, ◌++◌}
use Rattle.page_writer.specs.Groups.{silent_graces_text}
use Rattle.page_writer.proofs.note.push_silent_graces.Given as goal

abbrev pub invariant-silent : goal.invariant-silent
invariant-silent l = l.text.items ≡ l.initial.text.items ++ silent_graces_text l.counter
