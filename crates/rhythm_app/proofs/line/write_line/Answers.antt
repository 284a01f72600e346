use Rattle.rhythm_app.proofs.Taken.{writes_line}
use Rattle.rhythm_app.proofs.line.write_line.Goals as goal

pub returns : goal.returns
returns g c = writes_line g.K.Sink.taken g.K.Sink.faults _ _ _ c.write_stop-written.result c.write_stop-written.ensures
