use Rattle.rhythm_app.specs.Inputs.{shown_inputs}
use Rattle.rhythm_app.proofs.Fitting.{fit_had, unread_fit}
use Rattle.rhythm_app.proofs.fit.fit_text_of.Goals as goal

pub returns-in-Ok : goal.returns-in-Ok
returns-in-Ok g c =
    let said = c.fit_over.ensures in
    fit_had (shown_inputs c.args.inputs) c.args.among c.args.lent.now c.opened_session.new.lent c.fit_over.new.lent c.in-Ok.session c.in-Ok.ensures c.fit_over.result said.tests said.content said.all said.built said.counts

pub returns-in-Err : goal.returns-in-Err
returns-in-Err g c = unread_fit (shown_inputs c.args.inputs) c.args.among c.args.lent.now c.opened_session.new.lent c.in-Err.stop c.in-Err.ensures
