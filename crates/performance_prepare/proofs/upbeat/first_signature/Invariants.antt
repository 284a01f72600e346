use Rattle.std.proofs.Common.{◌≡◌, take}
use Rattle.rhythm_base.specs.Bars.{signature_at}
use Rattle.performance_prepare.proofs.upbeat.first_signature.Given as goal

abbrev pub invariant-loop-signature : goal.invariant-loop-signature
invariant-loop-signature l = l.found ≡ signature_at (take l.signature-index l.signatures) 0
