use Rattle.std.specs.Prelude.{◌≡◌, ◌≤◌, ◌+◌, ◌++◌, length, reverse, vec_capacity}
use Rattle.edit_session.proofs.kept_voices.taken.Given as goal

abbrev pub invariant-tables : goal.invariant-tables
invariant-tables l = record {
  all : reverse l.initial.tables.items ≡ l.taken.items ++ reverse l.tables.items;
  count : length l.taken.items ≡ l._number;
  memory : l.count ≤ vec_capacity l.taken;
  enough : l.count ≤ l._number + length l.tables.items;
}
