use Rattle.std.proofs.Common.{◌≡◌, length}
use Rattle.grammar_plan.specs.Drafts.{IsDraft, IsLonger}
use Rattle.grammar_plan.proofs.seats.fill_seats.Given as goal

abbrev pub invariant-seats : goal.invariant-seats
invariant-seats l = record {
  draft : IsDraft l.grammar l.draft.pairs.found.items l.draft.parts.items l.draft.cuts.items l.seats.items;
  longer : IsLonger l.fn.draft.pairs.found.items l.draft.pairs.found.items;
  count : length l.seats.items ≡ l.number;
}
