use Rattle.std.proofs.Common.{[], sym, subst}
use Rattle.std.specs.Int.{IsGcd}
use Rattle.notation.specs.Notes.{IsGrid}
use Rattle.notation.specs.Tokens.{Token}
use Rattle.notation.proofs.GridLemmas.{grid_none, grid_step}
use Rattle.notation.proofs.grid.grid.Goals as goal

pub tokens-init : goal.tokens-init
tokens-init c = subst (IsGrid c.args.odd []) (sym c.count-grid.ensures.is) (grid_none c.args.odd)

pub tokens-preserved : goal.tokens-preserved
tokens-preserved c =
    let own = subst (λ (t : Token). IsGcd t.start t.end c.gcd.result) c.token.view_is c.gcd.ensures in
    grid_step c.args.odd c.args.tokens.now c.tokens.token-index c.token-item.result c.tokens.grid c.gcd.result c.gcd-grid.result c.tokens-test.true
    c.token-item.is c.tokens.invariant own c.gcd-grid.ensures
