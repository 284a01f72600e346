use Rattle.std.proofs.Common.{◌≡◌, length, take}
use Rattle.grammar_plan.specs.Drafts.{ArePairs}
use Rattle.grammar_plan.specs.Plans.{HaveSeatsOverBars}
use Rattle.grammar_plan.proofs.SeatLemmas.{HaveRoots}
use Rattle.grammar_plan.proofs.seats.root_seats.Given as goal

abbrev pub invariant-starts : goal.invariant-starts
invariant-starts l = record {
  long : length l.seats.items ≡ length l.grammar.names;
  lawful : ArePairs l.grammar.resolution (length l.grammar.names) l.pairs.found.items;
  roots : HaveRoots l.grammar.resolution l.pairs.found.items l.seats.items;
  starts : HaveSeatsOverBars l.seats.items (take l.start-index l.grammar.starts);
}
