use Rattle.std.proofs.Common.{◌+◌, None, get_or, ap, ◌∙◌, subst, arith}
use Rattle.derivation.specs.declared.score.ScoreBar.{ScoreBar}
use Rattle.voice_events.specs.Parts.{score_bar_parts, score_parts}
use Rattle.lily_writer.specs.Staves.{spans_of}
use Rattle.lily_writer.specs.Pieces.{stretches}
use Rattle.lily_writer.specs.Writing.{Ahead, HasWrittenBar}
use Rattle.lily_writer.proofs.BarsWritten.{ahead_first, bars_all, bars_next, bars_none}
use Rattle.lily_writer.proofs.staff.write_bars.Goals as goal

pub bars-init : goal.bars-init
bars-init c =
    let spans = spans_of c.args.events.now in
    bars_none c.args.resolution c.args.first c.args.bars.now spans _ c.args.text.now.items
    (ap (λ n. let a : Ahead = record { spans = spans; at = 0; end = n } in a) (c.score_parts.ensures ∙ ap (λ r. score_parts r c.args.bars.now) c.count-units.ensures.is))
    (ahead_first c.args.resolution c.args.bars.now spans (omega (arith, c.count-units.ensures.is, c.count-units.ensures.some)) (omega (arith, c.count-units.ensures.is, c.count-units.ensures.few)) c.requires.bars c.requires.few_bars
    c.requires.events)

pub bars-preserved : goal.bars-preserved
bars-preserved c =
    let bars = c.args.bars.now in
    let d : ScoreBar = record { num = 0; den = 0; tempo = 0; sf = None } in
    let ss = stretches c.args.resolution 0 (score_parts c.args.resolution bars) (spans_of c.args.events.now) in
    bars_next c.args.resolution c.args.first ss bars c.bars.bar-index _ c.bars.before c.bars.from _ c.bars.ahead c.in_ok-ahead.ahead
    c.args.text.now.items
    c.bars.text.items c.write_lily_changes.new.text.items c.write_bar.new.text.items c.extend_from_slice.new.self.items
    c.bars-test.true c.requires.bars (ap (λ n. c.bars.from + n) (c.score_bar_parts.ensures.parts ∙ ap (λ r. score_bar_parts r (get_or bars c.bars.bar-index d)) c.count-units.ensures.is)) c.bars.invariant c.in_ok-write_lily_changes.ensures
    (subst (λ b. HasWrittenBar c.args.resolution c.bars.from (c.bars.from + c.score_bar_parts.result) b c.bars.ahead c.in_ok-ahead.ahead
    c.write_lily_changes.new.text.items c.write_bar.new.text.items) c.has_flats.ensures c.in_ok-ahead.ensures)
    c.in_ok-extend_from_slice.ensures.items

pub returns : goal.returns
returns c =
    let bars = c.args.bars.now in
    let ss = stretches c.args.resolution 0 (score_parts c.args.resolution bars) (spans_of c.args.events.now) in
    bars_all c.args.resolution c.args.first ss bars c.bars.bar-index c.bars.before c.bars.from c.bars.ahead c.args.text.now.items
    c.bars.text.items (omega (arith, c.bars-test.false)) c.bars.invariant
