use Rattle.std.proofs.Common.{◌≡◌, ◌∷◌, [], IfOk, Result, Ok, subst}
use Rattle.barline_fit.specs.Builds.{AreReachedAt, AreWithinReach}
use Rattle.barline_fit.specs.Tries.{HasBuiltToFit, IsFittedAmong}
use Rattle.barline_fit.specs.declared.fit_fault.FitFault.{FitFault}
use Rattle.barline_fit.specs.declared.fitted.Fitted.{Fitted}
use Rattle.edit_session.specs.Prepared.{RisesBy}
use Rattle.edit_session.specs.Session.{Session}
use Rattle.rhythm_app.specs.Outcome.{fit_stop}
use Rattle.rhythm_app.proofs.Fitting.{IsStopAt, fit_built}
use Rattle.rhythm_app.proofs.Scoring.{or_stop_made}
use Rattle.rhythm_app.proofs.fit.fit_over.Goals as goal

pub returns-clause-built : goal.returns-clause-built
returns-clause-built g c =
    let s : Session = c.args.session.now in
    let x : Fitted = c.in_ok-fitted.fitted in
    let some : Result Fitted FitFault = Ok x in
    let same = c.tick_among.ensures.same in
    let said = c.fitted_text.ensures in
    let mid = c.tick_among.new.lent.built in
    let new = c.fitted_text.new.lent.built in
    let made : c.tick_among.result ≡ some = or_stop_made fit_stop c.tick_among.result x c.in_ok-fitted.ensures in
    let fitted : IsFittedAmong s c.args.among x = subst (λ (r : Result Fitted FitFault). IfOk r (IsFittedAmong s c.args.among)) made c.tick_among.ensures.fitted in
    let builds : HasBuiltToFit s c.args.among some c.args.lent.now.built mid =
    subst (λ (r : Result Fitted FitFault). HasBuiltToFit s c.args.among r c.args.lent.now.built mid) made c.tick_among.ensures.builds in
    fit_built c.args.among s c.requires.can c.args.lent.now.built new x mid fitted (builds.all (λ e. cc)) c.fitted_text.result
    (subst (IsStopAt c.args.among.bar x.tick c.fitted_text.result) same said.stop)
    (λ other. subst (λ (t : Session). RisesBy mid new (AreReachedAt t.grammar t.performance c.args.among.bar (x.tick ∷ []))) same (said.builds other))
    (subst (λ (t : Session). RisesBy mid new (AreWithinReach t.grammar t.performance c.args.among.bar (x.tick ∷ []))) same said.most)
