use Rattle.std.proofs.Common.{◌++◌, List}
use Rattle.std.specs.Prelude.{All}
use Rattle.kern_writer.specs.Columns.{AreDataRecords, RiseFrom}
use Rattle.kern_writer.specs.Records.{Record}
use Rattle.kern_writer.specs.Writing.{HasWritten}
use Rattle.kern_writer.proofs.Merging.{tokens_left}
use Rattle.kern_writer.proofs.data.write_data.Given as goal

-- the records so far, with those of what is left, are all
abbrev pub invariant-places : goal.invariant-places
invariant-places l = record {
  rise : All (RiseFrom 0) l.columns;
  so_far : (done : List Record) × HasWritten l.initial.text l.text done × ((rest : List Record) → AreDataRecords l.columns rest → AreDataRecords l.initial.columns (done ++ rest));
}

abbrev pub decreases-places : goal.decreases-places
decreases-places l = tokens_left l.columns
