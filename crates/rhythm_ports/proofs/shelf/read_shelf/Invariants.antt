use Rattle.std.proofs.Common.{◌≡◌, ◌+◌, ◌-◌, ◌≤◌, length}
use Rattle.std.specs.Io.KnownBytes.{Consumes}
use Rattle.rhythm_ports.proofs.shelf.read_shelf.Given as goal

abbrev pub invariant-pieces : goal.invariant-pieces
invariant-pieces g l = record {
  taken : Consumes (g.F.Shelf.rest l.initial.shelf) (g.F.Shelf.rest l.shelf) l.bytes.items;
  within : length l.bytes.items ≤ l.limit + 1;
  later : g.F.Shelf.faults l.initial.shelf ≤ g.F.Shelf.faults l.shelf;
  files : g.F.Shelf.files l.shelf ≡ g.F.Shelf.files l.initial.shelf;
  strays : g.F.Shelf.strays l.shelf ≡ g.F.Shelf.strays l.initial.shelf;
}

abbrev pub decreases-pieces : goal.decreases-pieces
decreases-pieces g l = l.limit + 1 - length l.bytes.items
