use Rattle.rhythm_base.proofs.WorkedTrees.{leaf_list, nested_list}
use Rattle.rhythm_base.proofs.tree_from_rules.tests.reads_the_tree_of_a_list.Goals as goal

pub from_rules-requires : goal.from_rules-requires
from_rules-requires g c = leaf_list c.in_ok-grammar.grammar c.in_ok-grammar.ensures.units c.in_ok-grammar.ensures.rules

pub from_rules-requires-2 : goal.from_rules-requires-2
from_rules-requires-2 g c = nested_list c.in_ok-grammar.grammar c.in_ok-grammar.ensures.units c.in_ok-grammar.ensures.rules
