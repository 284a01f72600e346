use Rattle.tree_laws.proofs.Parsing.{no_prefix}
use Rattle.tree_laws.proofs.laws.lists_are_no_prefixes.Goals as goal

pub returns : goal.returns
returns c = no_prefix
