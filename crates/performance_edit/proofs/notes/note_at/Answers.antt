use Rattle.std.proofs.Common.{sym, ◌∙◌}
use Rattle.edit_laws.specs.Edits.{is_note}
use Rattle.performance_edit.proofs.OnlyPlaces.{find-none, find-only}
use Rattle.performance_edit.proofs.notes.note_at.Goals as goal

pub returns-in-None : goal.returns-in-None
returns-in-None c = sym (find-none (is_note c.args.channel c.args.key c.args.onset) c.args.notes.now c.in-None.ensures)

pub returns-in-Some : goal.returns-in-Some
returns-in-Some c = c.get.ensures ∙ sym (find-only (is_note c.args.channel c.args.key c.args.onset) c.args.notes.now c.in-Some.place c.in-Some.ensures)
