use Rattle.std.proofs.Common.{◌≡◌, map, take}
use Rattle.performance_prepare.specs.Shift.{shifted_signature}
use Rattle.performance_prepare.proofs.shift.Shift.signatures.Given as goal

abbrev pub invariant-loop-signature : goal.invariant-loop-signature
invariant-loop-signature l = l.shifted.items ≡ map (shifted_signature l.self) (take l.signature-index l.signatures)
