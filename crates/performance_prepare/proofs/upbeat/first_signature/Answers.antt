use Rattle.std.proofs.Common.{sym, ◌∙◌}
use Rattle.performance_prepare.proofs.InForce.{signature_before, signature_here}
use Rattle.performance_prepare.proofs.upbeat.first_signature.Goals as goal
use Rattle.performance_prepare.proofs.upbeat.first_signature.Goals.{then-signature-eq0, else-signature-eq0}

pub loop-signature-preserved : goal.loop-signature-preserved
loop-signature-preserved c = elim c.if-signature-eq0.branch [
  | then-signature-eq0 w ↦ w.found-is
      ∙ sym (signature_here c.args.signatures.now c.loop-signature.signature-index (record {
        tick = 0;
        num = 0;
        dd = 0;
      }) c.loop-signature-test.true w.if-signature-eq0.true)
  | else-signature-eq0 w ↦
      w.found-is ∙ c.loop-signature.invariant
      ∙ sym (signature_before c.args.signatures.now c.loop-signature.signature-index (record {
        tick = 0;
        num = 0;
        dd = 0;
      }) c.loop-signature-test.true w.if-signature-eq0.false)
]
