use Rattle.std.proofs.Common.{sym, ◌∙◌}
use Rattle.kern_writer.proofs.Rising.{here, none_left, not_here}
use Rattle.kern_writer.proofs.column.Column.token_at.Goals as goal
use Rattle.kern_writer.proofs.column.Column.token_at.Goals.{in_default-via-in-Some+else-place, in_default-via-in_default}

pub returns-in-Some : goal.returns-in-Some
returns-in-Some c = here c.args.place c.args.self.now c.in-Some.token c.in-Some.ensures (sym c.place.ensures ∙ c.if-place.true)

pub returns-in_default : goal.returns-in_default
returns-in_default c = elim c.in_default.branch [
  | in_default-via-in-Some+else-place w ↦ sym (not_here c.args.place c.args.self.now w.in-Some.token c.requires w.in-Some.ensures (λ e. w.if-place.false (w.place.ensures ∙ e)))
  | in_default-via-in_default w ↦ sym (none_left c.args.place c.args.self.now w.in_default.ensures)
]
