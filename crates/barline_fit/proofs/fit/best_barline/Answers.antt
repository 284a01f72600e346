use Rattle.std.proofs.Common.{ℕ, Option, Some, None, Result, Err, ◌<◌, ◌≡◌, ◌+◌, ◌-◌, ◌*◌, ◌/◌, ◌∷◌, [], ◌∙◌, ap, arith, length, refl, subst, sym}
use Rattle.std.specs.Prelude.{Contains, IsOk, ok_or}
use Rattle.std.proofs.lemmas.Result.{err_from_is_err_and}
use Rattle.barline_fit.specs.Builds.{AreReachedAt, AreWithinReach}
use Rattle.barline_fit.specs.Candidates.{ticks_of}
use Rattle.barline_fit.proofs.Reaching.{reached_nowhere}
use Rattle.barline_fit.proofs.Settable.{refused_everywhere}
use Rattle.barline_fit.proofs.Steps.{candidate_within, candidates_steps}
use Rattle.barline_fit.proofs.TriedTicks.{AreTried, IsBetter, none_tried, same_tried, tried_accepted, tried_refused, tried_within}
use Rattle.barline_fit.proofs.Tries.{built_within}
use Rattle.barline_fit.proofs.Answered.{best_is_fitted, none_is_a_fault}
use Rattle.barline_fit.specs.Fitted.{HasBarline, IsAcceptedAt, IsTriedAt}
use Rattle.barline_fit.specs.declared.fit_fault.FitFault.{FitFault}
use Rattle.barline_fit.specs.declared.fit_fault.FitFault.TheVariants.{Memory, NoBar, NoCandidate}
use Rattle.barline_fit.specs.declared.fitted.Fitted.{Fitted}
use Rattle.barline_fit.proofs.fit.best_barline.Goals.{in-Some, in_default, then-among-eq0-via-then-among-eq0, then-among-eq0-via-else-among-eq0+then-bars-among}
use Rattle.barline_fit.proofs.fit.best_barline.Given.{Over}
use Rattle.barline_fit.proofs.fit.best_barline.Goals as goal
use Rattle.edit_session.specs.Effects.{AllLive}
use Rattle.edit_session.specs.Prepared.{RisesBy}
use Rattle.edit_session.specs.Session.{Session}
use Rattle.edit_laws.specs.Edits.{edited}
use Rattle.rhythm_base.specs.declared.edit.Edit.TheVariants.{Barline}

-- want of memory is no want of a barline, and nor is what is found
no_memory : (bar : ℕ) → ◌≡◌ {A = Result Fitted FitFault} (Err Memory) (Err (NoBar bar)) → ⊥
no_memory bar is = absurd (cc)

some_bar : (bar : ℕ) (best : Option Fitted) → ok_or best NoCandidate ≡ Err (NoBar bar) → ⊥
some_bar bar None is = absurd (cc)
some_bar bar (Some x) is = absurd (cc)

pub returns-then-among-eq0-clause-builds : goal.returns-then-among-eq0-clause-builds
returns-then-among-eq0-clause-builds g c =
    let p = c.args.session.now.performance in
    let sizes = ap length (c.bars-bars.ensures.value ∙ ap (λ q. q.bars) c.performance.ensures.value) in
    let nowhere : RisesBy c.args.builds.now c.args.builds.now (AreReachedAt c.args.session.now.grammar p c.args.among.bar (ticks_of c.args.among)) = (
      0,
      omega arith,
      reached_nowhere c.args.session.now.grammar p c.args.among.bar (ticks_of c.args.among)
          (refused_everywhere p c.args.among.bar (λ (some, few). elim c.then-among-eq0.branch [
            | then-among-eq0-via-then-among-eq0 w ↦ omega (arith, w.if-among-eq0.true, some)
            | then-among-eq0-via-else-among-eq0+then-bars-among w ↦ omega (arith, w.if-bars-among.true, few, sizes)
          ])),
    ) in
    record {
      all = λ some_memory. nowhere;
      none = λ is. refl;
      most = built_within c.args.session.now.grammar p c.args.among.bar (ticks_of c.args.among) c.args.builds.now c.args.builds.now nowhere;
    }

pub ticks-init : goal.ticks-init
ticks-init g c = record {
  same = refl;
  tried = none_tried c.args.session.now.grammar c.args.session.now.performance c.args.among.bar c.args.among.low c.args.among.step c.args.builds.now;
  products = omega arith;
}

pub overflow_mul-tick : goal.overflow_mul-tick
overflow_mul-tick g c =
    let le = candidate_within c.args.among c.ticks.number c.count-number-end.result c.count-number-end.ensures.ticks c.ticks-test.true c.requires.order c.requires.step in
    omega (arith, le, c.requires.high)

pub overflow_add-tick : goal.overflow_add-tick
overflow_add-tick g c =
    let le = candidate_within c.args.among c.ticks.number c.count-number-end.result c.count-number-end.ensures.ticks c.ticks-test.true c.requires.order c.requires.step in
    omega (arith, le, c.requires.high)

pub cost_at-requires-clause-range : goal.cost_at-requires-clause-range
cost_at-requires-clause-range g c κs within =
    let le = candidate_within c.args.among c.ticks.number c.count-number-end.result c.count-number-end.ensures.ticks c.ticks-test.true c.requires.order c.requires.step in
    let sizes = ap length (c.bars-bars.ensures.value ∙ ap (λ q. q.bars) c.performance.ensures.value) in
    (omega (arith, c.if-bars-among.false, sizes, c.performance.ensures.formed.few_bars), omega (arith, le, c.requires.high))

pub cost_at-requires-clause-derivations : goal.cost_at-requires-clause-derivations
cost_at-requires-clause-derivations g c κs within = subst (λ (s : Session). AllLive s.grammar s.performance) (sym c.ticks.invariant.same) c.performance.ensures.derivations

pub returns-in_err-cost-clause-fault : goal.returns-in_err-cost-clause-fault
returns-in_err-cost-clause-fault g c =
    let among = c.args.among in
    let tick = among.low + c.ticks.number * among.step in
    let p = err_from_is_err_and c.from_residual.result c.from_residual.ensures.1 in
    let sizes = ap length (c.bars-bars.ensures.value ∙ ap (λ q. q.bars) c.performance.ensures.value) in
    let there : HasBarline c.args.session.now.performance among.bar = (omega (arith, c.if-among-eq0.false), omega (arith, c.if-bars-among.false, sizes)) in
    let le = candidate_within among c.ticks.number c.count-number-end.result c.count-number-end.ensures.ticks c.ticks-test.true c.requires.order c.requires.step in
    let one : Contains (ticks_of among) tick = (candidates_steps.steps among.low among.high among.step tick c.requires.order c.requires.step).1 (c.ticks.number, refl, le) in
    let allowed = subst (λ (s : Session). IsOk (edited s.performance (Barline among.bar tick))) c.ticks.invariant.same c.in_err-cost.ensures.memory in
    rw (p.1, p.2) (there, (tick, one, allowed))

pub returns-in_err-cost-clause-builds : goal.returns-in_err-cost-clause-builds
returns-in_err-cost-clause-builds g c =
    let among = c.args.among in
    let tick = among.low + c.ticks.number * among.step in
    let total = (among.high - among.low) / among.step + 1 in
    let p = err_from_is_err_and c.from_residual.result c.from_residual.ensures.1 in
    let lt : c.ticks.number < total = omega (arith, c.ticks-test.true, c.count-number-end.ensures.steps) in
    let within = subst (λ (s : Session). RisesBy c.ticks.builds c.cost_at.new.builds (AreWithinReach s.grammar s.performance among.bar (tick ∷ []))) c.ticks.invariant.same c.in_err-cost.ensures.most in
    rw (p.1, p.2) (record {
      all = λ some_memory. absurd (some_memory refl);
      none = λ is. absurd (no_memory among.bar is);
      most = tried_within c.args.session.now.grammar c.args.session.now.performance among.bar among.low among.step c.ticks.number total c.args.builds.now c.ticks.builds c.cost_at.new.builds c.ticks.best lt
          c.ticks.invariant.tried within;
    })

pub ticks-preserved : goal.ticks-preserved
ticks-preserved g c =
    let among = c.args.among in
    let gr = c.args.session.now.grammar in
    let p = c.args.session.now.performance in
    let old = c.args.builds.now in
    let tick = among.low + c.ticks.number * among.step in
    let tried = c.ticks.invariant.tried in
    let rises = subst (λ (s : Session). RisesBy c.ticks.builds c.cost_at.new.builds (AreReachedAt s.grammar s.performance among.bar (tick ∷ []))) c.ticks.invariant.same c.in_ok-cost.ensures.builds in
    record {
      same = c.cost_at.ensures.same ∙ c.ticks.invariant.same;
      tried = elim c.match-branch-2.branch [
        | in-Some w ↦
            let there = subst (IsTriedAt c.ticks.session.grammar c.ticks.session.performance among.bar tick) w.in-Some.is c.in_ok-cost.ensures.cost in
            let accepted = subst (λ (s : Session). IsAcceptedAt s.grammar s.performance among.bar tick w.in-Some.cost) c.ticks.invariant.same there in
            let better : IsBetter gr p among.bar among.low among.step c.ticks.best (record { tick = tick; cost = w.in-Some.cost }) w.better.result =
            record { first = w.better.ensures.first; kept = w.better.ensures.kept; cheaper = w.better.ensures.cheaper } in
            let more = tried_accepted gr p among.bar among.low among.step c.ticks.number c.ticks.best old c.ticks.builds c.cost_at.new.builds w.in-Some.cost w.better.result c.requires.step tried accepted
            better rises in
            subst (λ (b : Option Fitted). AreTried gr p among.bar among.low among.step (c.ticks.number + 1) b old c.cost_at.new.builds) (sym w.best-is) more
        | in_default w ↦
            let there = subst (IsTriedAt c.ticks.session.grammar c.ticks.session.performance among.bar tick) w.in_default.is c.in_ok-cost.ensures.cost in
            let tried_there = subst (λ (s : Session). IsTriedAt s.grammar s.performance among.bar tick None) c.ticks.invariant.same there in
            let more = tried_refused gr p among.bar among.low among.step c.ticks.number c.ticks.best old c.ticks.builds c.cost_at.new.builds tried tried_there rises in
            subst (λ (b : Option Fitted). AreTried gr p among.bar among.low among.step (c.ticks.number + 1) b old c.cost_at.new.builds) (sym w.best-is) more
      ];
      products = (let more = c.cost_at.ensures.products.0 in omega (arith, c.ticks.invariant.products, more));
    }

-- the loop ends when all ticks are tried
all_are_tried : (g : Over) (c : goal.After-ok_or g) → AreTried c.args.session.now.grammar c.args.session.now.performance c.args.among.bar c.args.among.low c.args.among.step
    ((c.args.among.high - c.args.among.low) / c.args.among.step + 1) c.ticks.best c.args.builds.now c.ticks.builds
all_are_tried g c =
    let among = c.args.among in
    let total = (among.high - among.low) / among.step + 1 in
    let all : c.ticks.number ≡ total = omega (arith, c.ticks-test.false, c.ticks.auto.number-end, c.count-number-end.ensures.steps) in
    same_tried c.args.session.now.grammar c.args.session.now.performance among.bar among.low among.step c.ticks.number total c.ticks.best c.args.builds.now c.ticks.builds all c.ticks.invariant.tried

pub returns-clause-fitted : goal.returns-clause-fitted
returns-clause-fitted g c =
    let tried = all_are_tried g c in
    best_is_fitted c.args.session.now.grammar c.args.session.now.performance c.args.among.bar (ticks_of c.args.among) c.ticks.best c.ok_or.result c.ok_or.ensures.value tried.best_is

pub returns-clause-fault : goal.returns-clause-fault
returns-clause-fault g c =
    let tried = all_are_tried g c in
    let sizes = ap length (c.bars-bars.ensures.value ∙ ap (λ q. q.bars) c.performance.ensures.value) in
    let there : HasBarline c.args.session.now.performance c.args.among.bar = (omega (arith, c.if-among-eq0.false), omega (arith, c.if-bars-among.false, sizes)) in
    none_is_a_fault c.args.session.now.grammar c.args.session.now.performance c.args.among.bar (ticks_of c.args.among) c.ticks.best c.ok_or.result c.ok_or.ensures.value there tried.best_is

pub returns-clause-builds : goal.returns-clause-builds
returns-clause-builds g c =
    let tried = all_are_tried g c in
    record {
      all = λ some_memory. tried.built;
      none = λ is. absurd (some_bar c.args.among.bar c.ticks.best (sym c.ok_or.ensures.value ∙ is));
      most = built_within c.args.session.now.grammar c.args.session.now.performance c.args.among.bar (ticks_of c.args.among) c.args.builds.now c.ticks.builds tried.built;
    }
