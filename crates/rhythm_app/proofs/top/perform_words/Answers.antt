use Rattle.std.proofs.Common.{◌∙◌, inl, sym}
use Rattle.rhythm_app.specs.Asked.{asked_by, asked_of}
use Rattle.rhythm_app.proofs.Asking.{asked_as, asked_nothing}
use Rattle.rhythm_app.proofs.Requests.{nothing_asked, performed_as}
use Rattle.rhythm_app.proofs.top.perform_words.Goals as goal

pub returns-in-Ok-clause-usage : goal.returns-in-Ok-clause-usage
returns-in-Ok-clause-usage g c = λ e. sym (asked_as c.args.words.now c.in-Ok.said c.in-Ok.ensures.ok) ∙ c.perform.ensures.usage.0 e

pub returns-in-Ok-clause-unusable : goal.returns-in-Ok-clause-unusable
returns-in-Ok-clause-unusable g c = λ e. inl (c.perform.ensures.usage.1 (asked_as c.args.words.now c.in-Ok.said c.in-Ok.ensures.ok ∙ e))

pub returns-in-Ok-clause-performed : goal.returns-in-Ok-clause-performed
returns-in-Ok-clause-performed g c =
    performed_as c.args.lent.now c.perform.new.lent c.perform.result (asked_of c.in-Ok.said) (asked_by c.args.words.now) (asked_as c.args.words.now c.in-Ok.said c.in-Ok.ensures.ok) c.perform.ensures.performed

pub returns-in-Err-Refused-clause-usage : goal.returns-in-Err-Refused-clause-usage
returns-in-Err-Refused-clause-usage g c = λ e. asked_nothing c.args.words.now (c.in-Err-Refused.ensures.refused c.in-Err-Refused.field-0-is)

pub returns-in-Err-Refused-clause-performed : goal.returns-in-Err-Refused-clause-performed
returns-in-Err-Refused-clause-performed g c =
    nothing_asked (asked_by c.args.words.now) c.args.lent.now (asked_nothing c.args.words.now (c.in-Err-Refused.ensures.refused c.in-Err-Refused.field-0-is))
