use Rattle.std.proofs.Common.{◌≡◌, ◌++◌, drop}
use Rattle.rhythm_base.specs.Forest.{forest_of, preorder, preorder_of}
use Rattle.rhythm_base.proofs.tree.Tree.+push_rules.Given as goal

abbrev pub decreases-push_rules : goal.decreases-push_rules
decreases-push_rules l = goal.size-push_rules l

abbrev pub invariant-loop-kid : goal.invariant-loop-kid
invariant-loop-kid l = l.rules.items ++ preorder (forest_of (drop l.kid-index l.kid-items)) ≡ l.fn.rules.items ++ preorder_of l.self
