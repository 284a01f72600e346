use Rattle.std.proofs.Common.{refl}
use Rattle.rhythm_app.specs.Asked.{answer}
use Rattle.rhythm_app.specs.Inputs.{shown_inputs}
use Rattle.rhythm_app.proofs.Answered.{session_had, session_not_had}
use Rattle.rhythm_app.proofs.answering.session_of.Goals as goal

pub returns-in-Ok : goal.returns-in-Ok
returns-in-Ok g c = session_had (shown_inputs c.args.inputs) c.args.talk c.args.lent.now c.opened_session.new.lent c.in-Ok.session c.in-Ok.ensures

pub returns-in-Err : goal.returns-in-Err
returns-in-Err g c = session_not_had (shown_inputs c.args.inputs) c.args.talk c.args.lent.now c.opened_session.new.lent c.in-Err.stop c.in-Err.ensures
