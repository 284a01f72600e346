use Rattle.std.proofs.Common.{◌≡◌, ◌≤◌, ◌-◌, ◌++◌, length}
use Rattle.std.specs.List.{flat_map}
use Rattle.performance_prepare.specs.Strum.{joins, strummed_notes, together}
use Rattle.performance_prepare.proofs.Cutting.{Cut}
use Rattle.performance_prepare.proofs.strum.strummed_notes.Given as goal

abbrev pub invariant-notes : goal.invariant-notes
invariant-notes l = record {
  placed : l.placed.items ++ flat_map together (Cut (joins l.map.tempos l.division l.within) l.notes l.start l.index (record {
    channel = 0;
    key = 0;
    onset = 0;
    end = 0;
  }))
      ≡ strummed_notes l.map.tempos l.division l.within l.notes;
  start : l.start ≤ l.index - 1;
  fits : l.start ≤ length l.notes;
}
