use Rattle.std.proofs.Common.{sym, ap, ◌∙◌}
use Rattle.performance_laws.proofs.EditedBars.{barline_last}
use Rattle.bar_cut.proofs.Barlines.{starts_at}
use Rattle.edit_session.proofs.span.barline_at.Goals as goal

pub returns-in-Some : goal.returns-in-Some
returns-in-Some c = ap (λ b. b.start) c.in-Some.ensures.lookup.1 ∙ sym (starts_at c.args.bars.now c.args.last c.args.number c.in-Some.bar.now c.in-Some.ensures.lookup.3.0)

pub returns-in-None : goal.returns-in-None
returns-in-None c = sym (barline_last c.args.bars.now c.args.last c.args.number c.in-None.ensures.lookup.3)
