use Rattle.std.proofs.Common.{◌≡◌, ◌++◌, List}
use Rattle.kern_writer.specs.Records.{Record, grace_records, grace_records_at}
use Rattle.kern_writer.specs.Writing.{HasWritten}
use Rattle.kern_writer.proofs.data.write_place.Given as goal

abbrev pub invariant-graces : goal.invariant-graces
invariant-graces l = (done : List Record) × HasWritten l.initial.text l.text done × (done ++ grace_records l.place l.columns l.left ≡ grace_records l.place l.columns (grace_records_at l.place l.columns))

abbrev pub decreases-graces : goal.decreases-graces
decreases-graces l = l.left
