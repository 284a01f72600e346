use Rattle.std.proofs.Common.{◌+◌, ◌≡◌, ◌++◌, take}
use Rattle.std.specs.List.{join_with_byte}
use Rattle.kern_writer.specs.Records.{grace_record}
use Rattle.kern_writer.proofs.data.write_graces.Given as goal

abbrev pub invariant-columns : goal.invariant-columns
invariant-columns l = record {
  bytes : l.text.bytes.items ≡ l.initial.text.bytes.items ++ join_with_byte 9 (grace_record l.place (take l.number l.columns) (l.later + 1));
  lines : l.text.lines ≡ l.initial.text.lines;
}
