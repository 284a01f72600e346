use Rattle.performance_prepare.specs.Tempo.{with_tempo}
use Rattle.performance_prepare.specs.Ready.{IsReady}
use Rattle.performance_prepare.specs.Shift.{latest_mark}
use Rattle.performance_prepare.proofs.Answered.{answered}
use Rattle.performance_prepare.proofs.Kept.{tempo_kept}
use Rattle.performance_prepare.proofs.preparing.told_tempo.Goals as goal

pub returns-in-Some-clause-ready : goal.returns-in-Some-clause-ready
returns-in-Some-clause-ready c =
    answered (IsReady latest_mark) (with_tempo c.in-Some.quarters c.args.take) c.with_tempo.result c.with_tempo.ensures
    (tempo_kept c.in-Some.quarters c.args.take c.requires.ready)
