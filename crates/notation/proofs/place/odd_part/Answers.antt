use Rattle.std.proofs.Common.{suc, arith}
use Rattle.notation.proofs.Halvings.{halved_more}
use Rattle.notation.proofs.place.odd_part.Goals as goal

pub halvings-preserved : goal.halvings-preserved
halvings-preserved c =
    let h = c.halvings.invariant in
    record {
      some = omega (arith, h.some, c.halvings-test.true);
      halved = (suc h.halved.0, halved_more c.args.number c.halvings.odd h.halved.0 c.halvings-test.true h.halved.1);
    }
