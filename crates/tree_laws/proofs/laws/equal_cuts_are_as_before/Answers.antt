use Rattle.tree_laws.proofs.EqualCuts.{equal_trees, leaves_equal}
use Rattle.tree_laws.proofs.laws.equal_cuts_are_as_before.Goals as goal

pub returns : goal.returns
returns c = record { trees = λ g qs f readable one. equal_trees g readable one qs f; leaves = λ g p qs f readable one. leaves_equal g readable one p qs f }
