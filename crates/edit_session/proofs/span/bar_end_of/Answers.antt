use Rattle.std.proofs.Common.{arith, inl, inr}
use Rattle.edit_session.proofs.BarStarts.{starts_after}
use Rattle.edit_session.proofs.span.bar_end_of.Goals as goal

pub returns-in-None : goal.returns-in-None
returns-in-None c = λ last. record { within = omega arith; is = inl (omega arith) }

pub returns-in-Some : goal.returns-in-Some
returns-in-Some c = λ last. record {
  within = c.bars_up_to.ensures.within;
  is = inr (c.in-Some.edge.place, c.in-Some.edge.tick, c.in-Some.ensures, λ bar le lt. starts_after c.args.bars.now last c.in-Some.edge.tick c.bars_up_to.result bar c.bars_up_to.ensures le lt);
}
