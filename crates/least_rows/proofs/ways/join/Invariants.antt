use Rattle.std.proofs.Common.{◌≡◌, ◌<◌, ℕ, take, length}
use Rattle.std.specs.Prelude.{Some}
use Rattle.least_rows.specs.Ways.{nearer_way, rank_in, way_in, way_on}
use Rattle.least_rows.proofs.ways.join.Given as goal

abbrev pub invariant-entries : goal.invariant-entries
invariant-entries l = record {
  rank : l.rank ≡ l.entry-index;
  long : length l.next ≡ 5;
  next : (b : ℕ) → b < 5 → way_in l.next b ≡ nearer_way (way_in l.initial.next b) (way_on (Some l.way) l.count (rank_in (take l.entry-index l.entries) 0 b));
}
