use Rattle.std.proofs.Common.{ap, Err}
use Rattle.edit_session.specs.Opening.{cells_of}
use Rattle.rhythm_base.specs.Counter.{risen}
use Rattle.rhythm_app.proofs.Drilling.{drilling_too_long, same_drill}
use Rattle.rhythm_app.proofs.drill.drilled.Goals as goal

pub returns-in-Err-ScoreTooLong-clause-tests : goal.returns-in-Err-ScoreTooLong-clause-tests
returns-in-Err-ScoreTooLong-clause-tests g c =
    let session = c.in-Ok.session in
    let line = c.in-Err-ScoreTooLong.line in
    let p = c.args.performance in
    drilling_too_long c.args.grammar c.args.number p line (risen c.args.lent.now.built (cells_of p)) c.drill_over.new.lent.built c.in-Ok.ensures.opened
    (same_drill c.args.grammar c.args.number p session.grammar session.performance (Err line) (risen c.args.lent.now.built (cells_of p)) c.open_session.new.lent.built c.drill_over.new.lent.built
    c.in-Ok.ensures.grammar c.in-Ok.ensures.performance c.in-Ok.ensures.all (c.in-Err-ScoreTooLong.ensures.too_long line (ap Err c.in-Err-ScoreTooLong.field-0-is)))

pub returns-in-Err-ScoreTooLong-clause-built : goal.returns-in-Err-ScoreTooLong-clause-built
returns-in-Err-ScoreTooLong-clause-built g c =
    let session = c.in-Ok.session in
    let line = c.in-Err-ScoreTooLong.line in
    let p = c.args.performance in
    same_drill c.args.grammar c.args.number p session.grammar session.performance (Err line) (risen c.args.lent.now.built (cells_of p)) c.open_session.new.lent.built c.drill_over.new.lent.built
    c.in-Ok.ensures.grammar c.in-Ok.ensures.performance c.in-Ok.ensures.all (c.in-Err-ScoreTooLong.ensures.too_long line (ap Err c.in-Err-ScoreTooLong.field-0-is))
