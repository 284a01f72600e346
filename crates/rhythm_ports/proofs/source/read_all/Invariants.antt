use Rattle.std.proofs.Common.{◌+◌, ◌-◌, ◌≤◌, length}
use Rattle.std.specs.Io.KnownBytes.{Consumes}
use Rattle.rhythm_ports.proofs.source.read_all.Given as goal

abbrev pub invariant-pieces : goal.invariant-pieces
invariant-pieces g l = record {
  taken : Consumes (g.S.Source.rest l.initial.src) (g.S.Source.rest l.src) l.bytes.items;
  within : length l.bytes.items ≤ l.limit + 1;
  later : g.S.Source.faults l.initial.src ≤ g.S.Source.faults l.src;
}

abbrev pub decreases-pieces : goal.decreases-pieces
decreases-pieces g l = l.limit + 1 - length l.bytes.items
