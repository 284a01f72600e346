use Rattle.std.proofs.Common.{List, ◌+◌, take, sym, subst}
use Rattle.rhythm_base.specs.Lists.{Each}
use Rattle.kern_writer.specs.Ahead.{AreTokensRead}
use Rattle.kern_writer.specs.Tokens.{Token}
use Rattle.derivation.proofs.Pairs.{each_more}
use Rattle.kern_writer.proofs.ahead.columns_of.Goals as goal

pub voices-preserved : goal.voices-preserved
voices-preserved c =
    let i = c.voices.voice-index in
    let R = AreTokensRead c.args.resolution c.args.bar.now in
    let one = subst (λ a. R a c.in_ok-column.field-0) c.voice-item.is c.in_ok-column.ensures in
    subst (Each R (take (i + 1) c.args.ahead.now)) (sym {A = List (List Token)} c.in_ok-push.ensures.items)
    (each_more R c.args.ahead.now c.voices.columns.items i c.voice-item.result c.in_ok-column.field-0 c.voices-test.true c.voices.invariant one)
