use Rattle.std.proofs.Common.{◌≡◌, ◌+◌, ◌*◌, true, sym, ◌∙◌, arith}
use Rattle.kern_reader.specs.Events.{holds_tie}
use Rattle.kern_reader.proofs.EventLemmas.{tie_step}
use Rattle.kern_reader.proofs.events.tie_length.Goals as goal

pub tokens-preserved : goal.tokens-preserved
tokens-preserved c =
    let i = c.tokens.token-index in
    let t = c.token-item.result in
    let holds : holds_tie t ≡ true = sym c.holds_tie.ensures ∙ c.if-not-holds_tie.false in
    let product : 7 * c.args.grid * (i + 1) ≡ 7 * c.args.grid * i + 7 * c.args.grid = grind arith in
    record {
      same = tie_step c.args.grid c.args.tokens.now i t c.tokens.total c.token_width-total.result c.tokens-test.true c.token-item.is holds c.token_width-total.ensures.width ∙ c.tokens.invariant.same;
      few = omega (arith, product, c.tokens.invariant.few, c.token_width-total.ensures.few);
    }
