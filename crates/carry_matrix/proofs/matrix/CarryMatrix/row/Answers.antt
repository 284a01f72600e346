use Rattle.std.proofs.Common.{◌∙◌, sym, ap, subst}
use Rattle.rhythm_base.specs.Ranked.{at}
use Rattle.carry_matrix.specs.Rows.{IsWithin, row_at, row_code}
use Rattle.carry_matrix.proofs.Rows.{row_read, row_within}
use Rattle.carry_matrix.proofs.matrix.CarryMatrix.row.Goals as goal

pub returns-clause-is : goal.returns-clause-is
returns-clause-is c =
    ap (λ rows. row_at rows c.index.result) c.self.invariant.coded
    ∙ row_read _ c.index.result c.index.ensures.within
    ∙ (λ i. row_code (at (c.self.view_is i) (c.index.ensures.is i)))

pub returns-clause-within : goal.returns-clause-within
returns-clause-within c =
    subst IsWithin (sym (ap (λ rows. row_at rows c.index.result) c.self.invariant.coded ∙ row_read _ c.index.result c.index.ensures.within))
    (row_within _ c.self.invariant.ranked c.self.invariant.low c.index.result c.index.ensures.within)
