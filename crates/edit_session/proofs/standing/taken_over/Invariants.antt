use Rattle.std.proofs.Common.{◌≡◌, map, take}
use Rattle.rhythm_base.specs.Counter.{risen}
use Rattle.edit_session.proofs.standing.taken_over.Given as goal

abbrev pub invariant-tables : goal.invariant-tables
invariant-tables g l = record {
  tables : l.own.items ≡ map (λ t. t.now) (take l.number l.tables);
  builds : l.builds ≡ risen l.initial.builds l.number;
}
