use Rattle.std.proofs.Common.{refl}
use Rattle.bar_cut.proofs.Performances.{can_be_cut}
use Rattle.bar_cut.proofs.laws.performances_can_be_cut.Goals as goal

pub returns : goal.returns
returns c = record { bars_and_chords = can_be_cut; cells = λ g p channel cs. refl }
