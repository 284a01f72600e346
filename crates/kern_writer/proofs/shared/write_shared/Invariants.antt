use Rattle.std.proofs.Common.{◌≡◌, ◌++◌, replicate}
use Rattle.std.specs.List.{join_with_byte}
use Rattle.kern_writer.specs.Shared.{shared_text}
use Rattle.kern_writer.proofs.shared.write_shared.Given as goal

abbrev pub invariant-columns : goal.invariant-columns
invariant-columns l = record {
  bytes : l.text.bytes.items ≡ l.initial.text.bytes.items ++ join_with_byte 9 (replicate l.number (shared_text l.token));
  lines : l.text.lines ≡ l.initial.text.lines;
}
