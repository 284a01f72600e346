use Rattle.std.proofs.Common.{◌∷◌, [], ap, arith}
use Rattle.std.specs.Prelude.{slice_index_or}
use Rattle.carry_matrix.specs.declared.choice.Choice.{Choice}
use Rattle.carry_matrix.proofs.choice.nearer_row.Goals as goal

pub returns : goal.returns
returns c = λ o right low are is small.
    let none : Choice = record { cost = 0; order = 0; middle = 0 } in
    λ i.
    c.nearer.ensures (o 0) (right 0) (low 0 (omega arith)) (ap (λ v. slice_index_or v 0 none) are) (ap (λ r. slice_index_or r.costs 0 0) is) (ap (λ r. slice_index_or r.ranks 0 0) is) (λ y. small 0 y (omega arith)) i
    ∷ c.nearer-2.ensures (o 1) (right 1) (low 1 (omega arith)) (ap (λ v. slice_index_or v 1 none) are) (ap (λ r. slice_index_or r.costs 1 0) is) (ap (λ r. slice_index_or r.ranks 1 0) is) (λ y. small 1 y (omega arith)) i
    ∷ c.nearer-3.ensures (o 2) (right 2) (low 2 (omega arith)) (ap (λ v. slice_index_or v 2 none) are) (ap (λ r. slice_index_or r.costs 2 0) is) (ap (λ r. slice_index_or r.ranks 2 0) is) (λ y. small 2 y (omega arith)) i
    ∷ c.nearer-4.ensures (o 3) (right 3) (low 3 (omega arith)) (ap (λ v. slice_index_or v 3 none) are) (ap (λ r. slice_index_or r.costs 3 0) is) (ap (λ r. slice_index_or r.ranks 3 0) is) (λ y. small 3 y (omega arith)) i
    ∷ c.nearer-5.ensures (o 4) (right 4) (low 4 (omega arith)) (ap (λ v. slice_index_or v 4 none) are) (ap (λ r. slice_index_or r.costs 4 0) is) (ap (λ r. slice_index_or r.ranks 4 0) is) (λ y. small 4 y (omega arith)) i
    ∷ []
