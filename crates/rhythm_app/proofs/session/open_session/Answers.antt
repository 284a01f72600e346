use Rattle.std.proofs.Common.{◌≡◌, ◌≤◌, ap, subst}
use Rattle.std.proofs.lemmas.Result.{err_from_is_err_and}
use Rattle.edit_session.specs.Opening.{cells_of}
use Rattle.rhythm_base.specs.Counter.{risen}
use Rattle.rhythm_app.specs.Builds.{MatchBuilds}
use Rattle.rhythm_app.specs.Lent.{Lent}
use Rattle.rhythm_app.specs.Outcome.{open_stop}
use Rattle.rhythm_app.proofs.Scoring.{open_built, open_content, unopened}
use Rattle.rhythm_app.proofs.session.open_session.Goals as goal

pub returns-in_err-session-clause-unopened : goal.returns-in_err-session-clause-unopened
returns-in_err-session-clause-unopened g c =
    let p = err_from_is_err_and c.from_residual.result c.from_residual.ensures.1 in
    rw (p.1, p.2) (unopened c.args.grammar c.args.performance c.in_err-session.field-0.0 c.in_err-session.ensures.fault)

pub returns-in_err-session-clause-content : goal.returns-in_err-session-clause-content
returns-in_err-session-clause-content g c =
    let p = err_from_is_err_and c.from_residual.result c.from_residual.ensures.1 in
    rw (p.1, p.2) (open_content c.in_err-session.field-0.0)

pub returns-in_err-session-clause-built : goal.returns-in_err-session-clause-built
returns-in_err-session-clause-built g c =
    let p = err_from_is_err_and c.from_residual.result c.from_residual.ensures.1 in
    let same = ap (λ (l : Lent g.row.W-Script.Denot g.row.W-Out.Denot g.row.W-Err.Denot). l.built) c.lent.view_is in
    let built = open_built _ _ _ c.in_err-session.field-0.0 c.in_err-session.ensures.built in
    let cells = cells_of c.args.performance in
    rw (p.1, p.2) (subst (λ n. MatchBuilds (c.open.new.builds ≡ risen n cells) (c.open.new.builds ≤ risen n cells) (c.open.new.builds ≡ n) (open_stop c.in_err-session.field-0.0)) same built)
