use Rattle.std.proofs.Common.{◌∙◌, arith, refl}
use Rattle.drill_run.proofs.Drills.{at_start, went_on}
use Rattle.drill_run.proofs.Keeps.{keeps_enough, step_keeps}
use Rattle.drill_run.proofs.Tries.{standing}
use Rattle.drill_run.proofs.drill.Drill.make_edits.Goals as goal

pub edits-init : goal.edits-init
edits-init g c =
    let self = c.args.self.now in (
      refl,
      refl,
      at_start self.session.grammar self.number self.session.performance self.accepted self.built c.args.builds.now c.requires.accepted c.requires.built,
      record { bars = c.requires.ready.two_bars; last = c.requires.ready.last; dropped = 0; few_dropped = omega arith; notes = omega (arith, c.requires.ready.some_notes) },
      omega (arith, c.requires.accepted),
      omega (arith, c.requires.built),
      omega arith,
    )

pub edits-preserved : goal.edits-preserved
edits-preserved g c =
    let first = c.args.self.now in
    let old = c.edits.self in
    let new = c.step.new.self in
    let inv = c.edits.invariant in
    let step = c.in_ok-step.ensures.step in
    let kept = step_keeps old.session.grammar old.number c.edits.index (standing old.session.performance old.accepted old.built) (standing new.session.performance new.accepted new.built) step.1
    c.step.ensures.formed step.2 in (
      c.step.ensures.number ∙ inv.0,
      c.step.ensures.grammar ∙ inv.1,
      went_on first.session.grammar old.session.grammar first.number old.number first.session.performance old.session.performance c.edits.index old.accepted old.built c.args.builds.now c.edits.builds inv.1 inv.0
          inv.2 new.session.performance new.accepted new.built c.step.new.builds step,
      keeps_enough c.edits.index old.session.performance new.session.performance inv.3 kept,
      c.in_ok-step.ensures.accepted,
      c.in_ok-step.ensures.built,
      (let more = c.step.ensures.products.0 in omega (arith, inv.6, more)),
    )
