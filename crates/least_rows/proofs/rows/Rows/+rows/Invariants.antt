use Rattle.std.proofs.Common.{◌≡◌, ◌+◌, ◌-◌, ◌*◌, ◌<◌}
use Rattle.least_rows.specs.Ways.{one_way, way_in}
use Rattle.least_rows.specs.Places.{width_at}
use Rattle.least_rows.specs.States.{AreKnown, Grows, HasState}
use Rattle.least_rows.specs.Steps.{AreChoicesBefore, AreWaysOverBelow}
use Rattle.least_rows.specs.Tops.{AreOfferedBelow, AreWaysTo}
use Rattle.least_rows.proofs.rows.Rows.+rows.Given as goal

abbrev pub decreases-find_row : goal.decreases-find_row
decreases-find_row l = 64 * width_at l.search.now.plan.now l.seat + 57

abbrev pub decreases-lead : goal.decreases-lead
decreases-lead l = 64 * width_at l.search.now.plan.now l.seat + 60

abbrev pub decreases-offer_cut : goal.decreases-offer_cut
decreases-offer_cut l = 64 * width_at l.search.now.plan.now l.top.seat + 53

abbrev pub decreases-offer_each : goal.decreases-offer_each
decreases-offer_each l = 64 * width_at l.search.now.plan.now l.seat + 54

abbrev pub decreases-offer_many : goal.decreases-offer_many
decreases-offer_many l = 64 * width_at l.search.now.plan.now l.seat + 55

abbrev pub decreases-offer_cuts : goal.decreases-offer_cuts
decreases-offer_cuts l = 64 * width_at l.search.now.plan.now l.seat + 56

abbrev pub decreases-offer_fork : goal.decreases-offer_fork
decreases-offer_fork l = 64 * width_at l.search.now.plan.now l.top.seat + 3 * (l.cut.now.end - l.fork.part) + 1

abbrev pub decreases-offer_along : goal.decreases-offer_along
decreases-offer_along l = 64 * width_at l.search.now.plan.now l.top.seat + 3 * (l.cut.now.end - l.start.part) + 2

abbrev pub decreases-offer_rest : goal.decreases-offer_rest
decreases-offer_rest l = 64 * width_at l.search.now.plan.now l.top.seat + 3 * (l.cut.now.end - l.next.part) + 3

abbrev pub decreases-offer_over : goal.decreases-offer_over
decreases-offer_over l = 64 * width_at l.search.now.plan.now l.top.seat + 3 * (l.cut.now.end - l.next.part) + 2

abbrev pub decreases-offer_alone : goal.decreases-offer_alone
decreases-offer_alone l = 64 * width_at l.search.now.plan.now l.top.seat + 3 * (l.cut.now.end - l.next.part) + 3

abbrev pub decreases-offer_several : goal.decreases-offer_several
decreases-offer_several l = 64 * width_at l.search.now.plan.now l.top.seat + 1

abbrev pub decreases-over_rows : goal.decreases-over_rows
decreases-over_rows l = 64 * width_at l.search.now.plan.now l.seat + 60

abbrev pub decreases-row : goal.decreases-row
decreases-row l = 64 * width_at l.search.now.plan.now l.seat + 59

abbrev pub decreases-row_of : goal.decreases-row_of
decreases-row_of l = 64 * width_at l.search.now.plan.now l.seat + 58

abbrev pub invariant-offer_each-cuts : goal.invariant-offer_each-cuts
invariant-offer_each-cuts l = record {
  known : AreKnown l.search l.self;
  grows : Grows l.initial.self l.self;
  best : AreChoicesBefore l.search l.seat l.place l.from l.number l.best;
}

abbrev pub invariant-offer_along-parts : goal.invariant-offer_along-parts
invariant-offer_along-parts l = record {
  known : AreKnown l.search l.self;
  grows : Grows l.initial.self l.self;
  same : l.best ≡ l.initial.best;
  few : l.count < 5;
  ways : AreWaysTo l.search l.top l.cut l.part l.at (one_way l.way l.count);
}

abbrev pub invariant-offer_several-counts : goal.invariant-offer_several-counts
invariant-offer_several-counts l = record {
  known : AreKnown l.search l.self;
  grows : Grows l.initial.self l.self;
  state : HasState l.self l.number l.own l.last.at;
  offered : AreOfferedBelow l.search l.top l.cut l.last.part l.last.at (way_in l.ways) l.count l.initial.best l.best;
}

abbrev pub invariant-over_rows-counts : goal.invariant-over_rows-counts
invariant-over_rows-counts l = record {
  known : AreKnown l.search l.self;
  grows : Grows l.initial.self l.self;
  state : HasState l.self l.number l.seat l.place;
  below : AreWaysOverBelow l.search l.seat l.place (way_in l.ways) l.count (way_in l.next);
}
