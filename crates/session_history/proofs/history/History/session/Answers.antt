use Rattle.std.proofs.Common.{subst}
use Rattle.session_history.specs.Changes.{IsHistory}
use Rattle.session_history.proofs.Views.{is_history}
use Rattle.session_history.proofs.history.History.session.Goals as goal

pub returns-clause-history : goal.returns-clause-history
returns-clause-history c =
    let kept = c.self.inside in subst IsHistory c.self.view_is (is_history kept.session kept.past kept.future c.self.invariant)
