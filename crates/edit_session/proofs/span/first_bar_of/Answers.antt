use Rattle.std.proofs.Common.{arith}
use Rattle.edit_session.proofs.BarStarts.{ends_by}
use Rattle.edit_session.proofs.span.first_bar_of.Goals as goal

pub returns : goal.returns
returns c = λ last. record {
  place = c.first_edge-edge.result.place;
  tick = c.first_edge-edge.result.tick;
  within = omega (arith, c.bars_up_to.ensures.within, c.saturating_sub.ensures);
  same = c.first_edge-edge.ensures;
  bars_end = λ bar lt. ends_by c.args.bars.now last c.first_edge-edge.result.tick c.bars_up_to.result bar c.bars_up_to.ensures (omega (arith, lt, c.saturating_sub.ensures));
}
