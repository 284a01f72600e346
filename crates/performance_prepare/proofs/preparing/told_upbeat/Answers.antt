use Rattle.performance_prepare.specs.Upbeat.{with_upbeat}
use Rattle.performance_load.specs.Taking.{IsTakeFormed}
use Rattle.performance_prepare.proofs.Answered.{answered}
use Rattle.performance_prepare.proofs.Kept.{upbeat_kept}
use Rattle.performance_prepare.proofs.preparing.told_upbeat.Goals as goal

pub returns-in-Some-clause-formed : goal.returns-in-Some-clause-formed
returns-in-Some-clause-formed c =
    answered IsTakeFormed (with_upbeat c.in-Some.upbeat c.args.take) c.with_upbeat.result c.with_upbeat.ensures
    (upbeat_kept c.in-Some.upbeat c.args.take c.requires.ready)
