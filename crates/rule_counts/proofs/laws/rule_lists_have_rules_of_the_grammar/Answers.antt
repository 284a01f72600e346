use Rattle.rule_counts.proofs.TreeRules.{have_rules}
use Rattle.rule_counts.proofs.laws.rule_lists_have_rules_of_the_grammar.Goals as goal

pub returns : goal.returns
returns c = have_rules
