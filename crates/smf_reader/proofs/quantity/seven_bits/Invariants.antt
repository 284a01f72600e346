use Rattle.std.proofs.Common.{◌≡◌, ◌<◌, ◌^◌, take}
use Rattle.smf_reader.specs.Quantity.{seven_bits}
use Rattle.smf_reader.proofs.quantity.seven_bits.Given as goal

abbrev pub invariant-loop-byte : goal.invariant-loop-byte
invariant-loop-byte l = record {
  so_far : l.number ≡ seven_bits (take l.byte-index l.bytes);
  below : l.number < 128 ^ l.byte-index;
}
