use Rattle.std.proofs.Common.{◌∙◌, ap, sym}
use Rattle.rhythm_base.specs.Ranked.{CarryMatrix}
use Rattle.least_cost.specs.Costs.{asked_costs}
use Rattle.tree_laws.proofs.OneTable.{matrices_same}
use Rattle.table_laws.proofs.laws.costs_are_one.Goals as goal

pub returns : goal.returns
returns c g k asked costs others h o =
    h.costs_are ∙ ap (λ (m : CarryMatrix). asked_costs m asked) (matrices_same g h.table o.table (h.of_input ∙ sym o.of_input) h.is o.is) ∙ sym o.costs_are
