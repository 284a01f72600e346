use Rattle.notation.proofs.FilledGroups.{bar_filled}
use Rattle.notation.proofs.laws.groups_fill_the_bar.Goals as goal

pub returns : goal.returns
returns c = bar_filled
