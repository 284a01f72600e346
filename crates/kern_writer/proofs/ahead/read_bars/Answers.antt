use Rattle.std.proofs.Common.{set, sym, ap, ◌∙◌}
use Rattle.std.proofs.lemmas.List.Edits.{map_over_more}
use Rattle.kern_writer.specs.Ahead.{bar_read}
use Rattle.kern_writer.proofs.ahead.read_bars.Goals as goal

pub voices-preserved : goal.voices-preserved
voices-preserved c =
    let i = c.voices.voice-index in
    let f = bar_read c.args.number in
    let more = map_over_more f c.args.ahead.now c.voices.ahead i c.voice-item.result c.voices-test.true c.voices.invariant c.voice-item.is in
    ap (λ t. set c.voices.ahead i t) (c.in_ok-read_bar.ensures ∙ ap f (sym c.voice-item.is)) ∙ more
