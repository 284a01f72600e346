use Rattle.rhythm_app.specs.Inputs.{shown_inputs}
use Rattle.rhythm_app.proofs.ScriptedSessions.{inputs_not_had, scripted_inputs}
use Rattle.rhythm_app.proofs.script_file.opened_session.Goals as goal

pub returns-in-Ok : goal.returns-in-Ok
returns-in-Ok g c =
    scripted_inputs (shown_inputs c.args.inputs) c.args.lent.now c.read_inputs.new.lent c.scripted_session.new.lent c.in-Ok.grammar c.in-Ok.performance c.in-Ok.script c.as_slice.result.now
    c.as_slice.ensures.value c.in-Ok.ensures c.scripted_session.result c.scripted_session.ensures

pub returns-in-Err : goal.returns-in-Err
returns-in-Err g c = inputs_not_had (shown_inputs c.args.inputs) c.args.lent.now c.read_inputs.new.lent c.in-Err.stop c.in-Err.ensures
