use Rattle.std.proofs.Common.{subst}
use Rattle.rhythm_app.specs.Stages.{HasText, IsTextWritten}
use Rattle.rhythm_app.proofs.Performing.{written}
use Rattle.rhythm_app.proofs.top.finish.Goals as goal

pub returns-in-Ok : goal.returns-in-Ok
returns-in-Ok g c = λ asked before had.
    written asked before c.args.lent.now c.write_text.new.lent c.in-Ok.text (subst (λ r. HasText asked before c.args.lent.now r) c.in-Ok.is had) c.write_text.result
    (subst (λ text. IsTextWritten text c.args.lent.now c.write_text.new.lent c.write_text.result) c.as_slice.ensures.value c.write_text.ensures)
