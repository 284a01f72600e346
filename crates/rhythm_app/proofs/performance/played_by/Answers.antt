use Rattle.std.proofs.Common.{Err}
use Rattle.std.proofs.lemmas.Result.{err_from_is_err_and}
use Rattle.rhythm_app.specs.Outcome.{AreInTurn, IsPreparing, IsTakeLoading, IsTaking}
use Rattle.rhythm_app.proofs.InTurn.{next_follows, stop_follows}
use Rattle.rhythm_app.proofs.performance.played_by.Goals as goal

pub returns-in_err-take-clause-tests : goal.returns-in_err-take-clause-tests
returns-in_err-take-clause-tests c =
    let p = err_from_is_err_and c.from_residual-in_err-take.result c.from_residual-in_err-take.ensures.1 in
    rw (p.1, p.2) (next_follows (IsTaking c.args.smf.now) (λ t. AreInTurn (IsPreparing c.args.options.now t) IsTakeLoading) c.in_ok-taken.taken (Err c.in_err-take.field-0.0) c.in_ok-taken.ensures.tests
    (stop_follows (IsPreparing c.args.options.now c.in_ok-taken.taken) IsTakeLoading c.in_err-take.field-0.0 c.in_err-take.ensures.tests))

pub returns-clause-tests : goal.returns-clause-tests
returns-clause-tests c =
    next_follows (IsTaking c.args.smf.now) (λ t. AreInTurn (IsPreparing c.args.options.now t) IsTakeLoading) c.in_ok-taken.taken _ c.in_ok-taken.ensures.tests
    (next_follows (IsPreparing c.args.options.now c.in_ok-taken.taken) IsTakeLoading c.in_ok-take.take _ c.in_ok-take.ensures.tests c.loaded_of.ensures.tests)
