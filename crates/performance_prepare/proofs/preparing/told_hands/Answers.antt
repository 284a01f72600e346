use Rattle.rhythm_base.specs.declared.limits.TheConstants.{LATEST_EVENT}
use Rattle.performance_prepare.specs.Hands.{with_hands}
use Rattle.performance_prepare.specs.Ready.{IsReady}
use Rattle.performance_prepare.proofs.Answered.{answered}
use Rattle.performance_prepare.proofs.Handed.{hands_kept}
use Rattle.performance_prepare.proofs.preparing.told_hands.Goals as goal

pub returns-in-Some-clause-ready : goal.returns-in-Some-clause-ready
returns-in-Some-clause-ready c =
    answered (IsReady LATEST_EVENT) (with_hands c.in-Some.channel c.group_reach.result c.args.take)
    c.with_hands.result c.with_hands.ensures
    (hands_kept LATEST_EVENT c.in-Some.channel c.group_reach.result c.args.take c.requires)
