use Rattle.std.proofs.Common.{◌≡◌, take}
use Rattle.kern_writer.specs.Records.{grace_records_at}
use Rattle.kern_writer.proofs.data.most_graces.Given as goal

abbrev pub invariant-columns : goal.invariant-columns
invariant-columns l = l.most ≡ grace_records_at l.place (take l.column-index l.columns)
