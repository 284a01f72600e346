use Rattle.notation.proofs.NoteLemmas.{notes_all, notes_step}
use Rattle.notation.proofs.notes.notes_of.Goals as goal

pub tokens-preserved : goal.tokens-preserved
tokens-preserved c =
    let own = c.in_ok-push_notes.ensures in
    notes_step c.args.by.grid c.args.by.whole c.args.tokens.now c.tokens.token-index c.token-item.result c.tokens.list.items c.push_notes.new.list.items own.0
    c.tokens-test.true c.token-item.is c.tokens.invariant own.1 own.2

pub returns : goal.returns
returns c = notes_all c.args.by.grid c.args.by.whole c.args.tokens.now c.tokens.token-index c.tokens.list.items c.tokens-test.false c.tokens.invariant
