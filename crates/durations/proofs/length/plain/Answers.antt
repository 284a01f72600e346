use Rattle.std.proofs.Common.{arith}
use Rattle.std.proofs.lemmas.Bool.Decides.{nat_tests}
use Rattle.durations.proofs.Plain.{not_plain}
use Rattle.durations.proofs.length.plain.Goals as goal

pub returns-else-parts-whole-2-clause-none : goal.returns-else-parts-whole-2-clause-none
returns-else-parts-whole-2-clause-none c =
    not_plain c.args.parts c.args.whole (λ h. grind (arith, nat_tests, h, c.if-whole-parts-eq0.false)) (λ h. grind (arith, nat_tests, h, c.if-parts-whole.false)) (λ h. grind (arith, nat_tests, h, c.if-parts-whole-2.false))
