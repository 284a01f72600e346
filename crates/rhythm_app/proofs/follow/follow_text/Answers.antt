use Rattle.rhythm_app.specs.Inputs.{shown_inputs}
use Rattle.rhythm_app.proofs.Following.{follow_had, unread_follow}
use Rattle.rhythm_app.proofs.follow.follow_text.Goals as goal

pub returns-in-Ok : goal.returns-in-Ok
returns-in-Ok g c =
    let said = c.script_over.ensures in
    follow_had (shown_inputs c.args.inputs) c.args.lent.now c.opened_session.new.lent c.script_over.new.lent c.in-Ok.session c.in-Ok.ensures c.script_over.result said.tests said.memory said.builds said.most said.counts

pub returns-in-Err : goal.returns-in-Err
returns-in-Err g c = unread_follow (shown_inputs c.args.inputs) c.args.lent.now c.opened_session.new.lent c.in-Err.stop c.in-Err.ensures
