use Rattle.std.proofs.Common.{ap, subst, sym, Some, Err}
use Rattle.rhythm_app.specs.Asked as asked
use Rattle.rhythm_app.specs.Ends.{IsPerformed}
use Rattle.rhythm_app.specs.declared.stop.Stop.{Stop}
use Rattle.rhythm_app.specs.Inputs.{shown_inputs}
use Rattle.rhythm_app.proofs.Performing.{stopped_before}
use Rattle.rhythm_app.proofs.Talking.{answered, broken_off}
use Rattle.rhythm_app.proofs.answering.answer.Goals as goal

pub returns-in-Ok-talk_over : goal.returns-in-Ok-talk_over
returns-in-Ok-talk_over g c =
    let said = c.talk_over.ensures in
    answered c.args.talk (shown_inputs c.args.inputs) c.args.lent.now c.session_of.new.lent c.talk_over.new.lent c.in-Ok.session c.in-Ok.ensures _ c.in-Ok-talk_over.ensures.done said.files said.counters.0
    said.counters.1 said.err

pub returns-in-Err-talk_over : goal.returns-in-Err-talk_over
returns-in-Err-talk_over g c =
    let said = c.talk_over.ensures in
    let end = c.in-Err-talk_over.stop in
    subst (λ (x : Stop). IsPerformed (Some (asked.answer c.args.talk (shown_inputs c.args.inputs))) c.args.lent.now c.talk_over.new.lent (Err x)) (sym c.script_stop.ensures)
    (broken_off c.args.talk (shown_inputs c.args.inputs) c.args.lent.now c.session_of.new.lent c.talk_over.new.lent c.in-Ok.session c.in-Ok.ensures end c.in-Err-talk_over.ensures.broken
    (λ e. c.in-Err-talk_over.ensures.read (ap Err e)) (λ e. c.in-Err-talk_over.ensures.write (ap Err e)) (λ e. c.in-Err-talk_over.ensures.memory (ap Err e)) said.files said.counters.0 said.counters.1 said.err)

pub returns-in-Err : goal.returns-in-Err
returns-in-Err g c =
    stopped_before (Some (asked.answer c.args.talk (shown_inputs c.args.inputs))) c.args.lent.now c.session_of.new.lent c.in-Err.stop c.in-Err.ensures.before
