use Rattle.rhythm_base.specs.declared.limits.TheConstants.{LATEST_EVENT}
use Rattle.performance_prepare.specs.Drums.{without_drums}
use Rattle.performance_prepare.specs.Ready.{IsReady}
use Rattle.performance_prepare.proofs.Answered.{answered}
use Rattle.performance_prepare.proofs.Kept.{drums_kept}
use Rattle.performance_prepare.proofs.preparing.told_drums.Goals as goal

pub returns-then-no_drums-clause-ready : goal.returns-then-no_drums-clause-ready
returns-then-no_drums-clause-ready c =
    answered (IsReady LATEST_EVENT) (without_drums c.args.take) c.without_drums.result c.without_drums.ensures
    (drums_kept LATEST_EVENT c.args.take c.requires)
