use Rattle.tree_laws.proofs.OneAlternatives.{one_alternatives}
use Rattle.tree_laws.proofs.OneTable.{lists_same, matrices_same}
use Rattle.tree_laws.proofs.OneDerivations.{one_least}
use Rattle.tree_laws.proofs.laws.trees_have_one_answer.Goals as goal

pub returns : goal.returns
returns c = record {
  least = one_least;
  tables = λ g v w x y input. (matrices_same g v w input x y, lists_same g v w input x y);
  alternatives = one_alternatives;
}
