use Rattle.session_counts.proofs.RuleLists.{are_one}
use Rattle.session_counts.proofs.laws.rule_lists_are_one.Goals as goal

pub returns : goal.returns
returns c = are_one
