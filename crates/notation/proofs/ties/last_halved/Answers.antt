use Rattle.std.proofs.Common.{ℕ, ◌-◌, ◌/◌, Bool, ap, ap₂, ◌∙◌}
use Rattle.notation.specs.Places.{is_halved}
use Rattle.notation.specs.Tokens.{Token}
use Rattle.notation.proofs.LastNumbers.{last_step}
use Rattle.notation.proofs.ties.last_halved.Goals as goal
use Rattle.notation.proofs.ties.last_halved.Goals.{then-is_halved, else-is_halved}

pub tokens-preserved : goal.tokens-preserved
tokens-preserved c =
    let may : ℕ → Bool = λ end. is_halved c.args.by.whole ((end - c.args.start) / c.args.by.grid) in
    let t = c.index-tied-index.result in
    let test = c.is_halved.ensures
    ∙ ap₂ (λ w g. is_halved w ((c.token.inside.end - c.args.start) / g)) c.whole-whole.ensures c.grid-grid.ensures.is ∙ ap (λ (x : Token). may x.end) c.token.view_is in
    elim c.if-is_halved.branch [
      | then-is_halved w ↦ last_step may c.args.tied.now c.tokens.index t c.is_halved.result c.tokens.last c.if-is_halved.last c.tokens-test.true
          c.index-tied-index.is test c.tokens.invariant (λ e. w.last-is) (λ e. absurd (cc (e, w.if-is_halved.true)))
      | else-is_halved w ↦ last_step may c.args.tied.now c.tokens.index t c.is_halved.result c.tokens.last c.if-is_halved.last c.tokens-test.true
          c.index-tied-index.is test c.tokens.invariant (λ e. absurd (cc (e, w.if-is_halved.false))) (λ e. w.last-is)
    ]
