use Rattle.std.proofs.Common.{◌+◌, ◌*◌, length}
use Rattle.rhythm_base.proofs.tree_from_rules.+read.Given as goal

abbrev pub decreases-first_tree : goal.decreases-first_tree
decreases-first_tree l = 2 * length l.rules.now + 1

abbrev pub decreases-push_trees : goal.decreases-push_trees
decreases-push_trees l = 2 * length l.rules.now
