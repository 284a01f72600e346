use Rattle.std.proofs.Common.{drop, sym, ap, subst, ◌∙◌}
use Rattle.session_history.proofs.Keeping.{IsCutOn, cut_on}
use Rattle.session_history.proofs.steps.Steps.cut.Goals as goal

pub steps-preserved-in-steps : goal.steps-preserved-in-steps
steps-preserved-in-steps c =
    subst (IsCutOn c.args.self.now) (sym (ap (λ b. b.items) c.pop_front.ensures.items ∙ ap (drop 1) c.self.view_is))
    (cut_on c.args.self.now c.steps.self c.steps.invariant c.steps-test.ensures)
