use Rattle.rhythm_base.specs.declared.limits.TheConstants.{LATEST_EVENT}
use Rattle.performance_prepare.proofs.Strummed.{strum_kept}
use Rattle.performance_prepare.proofs.preparing.told_strum.Goals as goal

pub returns-in_ok-with_strum-in-Some-clause-ready : goal.returns-in_ok-with_strum-in-Some-clause-ready
returns-in_ok-with_strum-in-Some-clause-ready c =
    strum_kept LATEST_EVENT c.in-Some.within c.args.take
    c.in_ok-with_strum-in-Some.field-0 c.in_ok-with_strum-in-Some.ensures c.requires
