use Rattle.std.proofs.Common.{◌≡◌, ◌<◌, ℕ, take, length}
use Rattle.std.specs.Prelude.{Some}
use Rattle.least_rows.specs.Choices.{choice_in, nearer_choice, topped_choice}
use Rattle.least_rows.specs.Ways.{rank_in, way_on}
use Rattle.least_rows.proofs.choice.offer_entries.Given as goal

abbrev pub invariant-entries : goal.invariant-entries
invariant-entries l = record {
  rank : l.rank ≡ l.entry-index;
  long : length l.best ≡ 5;
  best : (b : ℕ) → b < 5 → choice_in l.best b ≡ nearer_choice (choice_in l.initial.best b) (topped_choice l.cut l.number (way_on (Some l.way) l.count (rank_in (take l.entry-index l.entries) 0 b)));
}
