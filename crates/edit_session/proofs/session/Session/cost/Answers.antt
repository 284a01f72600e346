use Rattle.std.proofs.Common.{◌<◌, ◌^◌, subst, sym, ap, ◌∙◌}
use Rattle.std.specs.Prelude.{All, sum_by}
use Rattle.rhythm_base.specs.Voices.{IsCostOf}
use Rattle.edit_session.specs.VoiceTables.{HasPath, voice_cost}
use Rattle.edit_session.specs.Session.{Session}
use Rattle.edit_session.proofs.PathCosts.{costs_fit}
use Rattle.edit_session.proofs.Voices.{all_costs, all_paths}
use Rattle.edit_session.proofs.session.Session.cost.Goals as goal

pub total_of-requires-clause-paths : goal.total_of-requires-clause-paths
total_of-requires-clause-paths c =
    let kept = c.self.inside in
    subst (All HasPath) (sym c.as_slice.ensures.value) (all_paths kept.grammar kept.performance kept.room kept.performance.channels kept.voices.items c.self.invariant.each)

pub total_of-requires-clause-fits : goal.total_of-requires-clause-fits
total_of-requires-clause-fits c =
    let kept = c.self.inside in
    subst (λ vs. sum_by voice_cost vs < 2 ^ 64) (sym c.as_slice.ensures.value) (costs_fit kept.grammar kept.performance kept.room kept.voices.items c.self.invariant.each c.self.invariant.few_cells)

pub returns : goal.returns
returns c =
    let kept = c.self.inside in
    let is = c.total_of.ensures ∙ ap (sum_by voice_cost) c.as_slice.ensures.value in
    let inside : IsCostOf kept.grammar kept.performance (sum_by voice_cost kept.voices.items) =
    all_costs kept.grammar kept.performance c.self.invariant.readable c.self.invariant.formed c.self.invariant.starts kept.room kept.performance.channels kept.voices.items c.self.invariant.each in
    subst (λ n. IsCostOf c.args.self.now.grammar c.args.self.now.performance n) (sym is)
    (subst (λ (s : Session). IsCostOf s.grammar s.performance (sum_by voice_cost kept.voices.items)) c.self.view_is inside)
