use Rattle.std.specs.Prelude.{◌≡◌, ◌+◌, ◌++◌, length, map, reverse, take}
use Rattle.edit_session.specs.Prepared.{cell_of, bar_table_of}
use Rattle.edit_session.specs.ReachedCells.{place_pair}
use Rattle.edit_session.proofs.prepared.placed_tables.Given as goal

abbrev pub invariant-cells : goal.invariant-cells
invariant-cells l = record {
  cells : map cell_of l.placed.items ≡ map place_pair (take l.number l.cells);
  tables : map bar_table_of l.placed.items ++ reverse l.tables.items ≡ reverse l.initial.tables.items;
  left : length l.cells ≡ l.number + length l.tables.items;
}
