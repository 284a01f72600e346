use Rattle.std.proofs.Common.{ap, sym, Some, ◌∙◌}
use Rattle.rhythm_app.specs.Asked.{asked_of, answer, shown_request}
use Rattle.rhythm_app.specs.Inputs.{shown_inputs}
use Rattle.rhythm_app.specs.declared.request.Request.{Request}
use Rattle.rhythm_app.proofs.Requests.{performed_as, usage_as}
use Rattle.rhythm_app.proofs.top.perform.Goals as goal

pub returns-in-Some-Answer-clause-usage : goal.returns-in-Some-Answer-clause-usage
returns-in-Some-Answer-clause-usage g c =
    usage_as c.args.lent.now c.answer.new.lent c.answer.result (answer c.in-Some-Answer.talk (shown_inputs c.in-Some-Answer.inputs)) (asked_of c.args.said.now) (ap (λ (r : Request). Some (shown_request r)) (sym c.in-Some-Answer.field-0-is) ∙ c.in-Some-Answer.ensures.asked) c.answer.ensures

pub returns-in-Some-Answer-clause-performed : goal.returns-in-Some-Answer-clause-performed
returns-in-Some-Answer-clause-performed g c =
    performed_as c.args.lent.now c.answer.new.lent c.answer.result (Some (answer c.in-Some-Answer.talk (shown_inputs c.in-Some-Answer.inputs))) (asked_of c.args.said.now) (ap (λ (r : Request). Some (shown_request r)) (sym c.in-Some-Answer.field-0-is) ∙ c.in-Some-Answer.ensures.asked) c.answer.ensures
