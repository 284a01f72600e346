use Rattle.rhythm_base.specs.declared.limits.TheConstants.{LATEST_EVENT}
use Rattle.performance_prepare.specs.Split.{with_split}
use Rattle.performance_prepare.specs.Ready.{IsReady}
use Rattle.performance_prepare.proofs.Answered.{answered}
use Rattle.performance_prepare.proofs.Parting.{split_kept}
use Rattle.performance_prepare.proofs.preparing.told_split.Goals as goal

pub returns-in-Some-clause-ready : goal.returns-in-Some-clause-ready
returns-in-Some-clause-ready c =
    answered (IsReady LATEST_EVENT) (with_split c.in-Some.key c.args.take) c.with_split.result c.with_split.ensures
    (split_kept LATEST_EVENT c.in-Some.key c.args.take c.requires)
