use Rattle.std.proofs.Common.{ap, ◌∙◌}
use Rattle.notation.specs.Rests.{may_stand}
use Rattle.notation.specs.Tokens.{Token}
use Rattle.notation.proofs.LastNumbers.{last_step}
use Rattle.notation.proofs.rests.last_standing.Goals as goal
use Rattle.notation.proofs.rests.last_standing.Goals.{then-may_stand, else-may_stand}

pub rests-preserved : goal.rests-preserved
rests-preserved c =
    let may = may_stand c.args.resolution c.args.bar.now c.args.start in
    let t = c.index-later-index.result in
    let test = c.may_stand.ensures ∙ ap (λ (x : Token). may x.end) c.rest.view_is in
    elim c.if-may_stand.branch [
      | then-may_stand w ↦ last_step may c.args.later.now c.rests.index t c.may_stand.result c.rests.last c.if-may_stand.last c.rests-test.true
          c.index-later-index.is test c.rests.invariant (λ e. w.last-is) (λ e. absurd (cc (e, w.if-may_stand.true)))
      | else-may_stand w ↦ last_step may c.args.later.now c.rests.index t c.may_stand.result c.rests.last c.if-may_stand.last c.rests-test.true
          c.index-later-index.is test c.rests.invariant (λ e. absurd (cc (e, w.if-may_stand.false))) (λ e. w.last-is)
    ]
