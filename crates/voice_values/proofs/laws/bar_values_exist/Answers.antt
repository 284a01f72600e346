use Rattle.voice_values.proofs.ValuesExist.{values_of_a_bar_exist}
use Rattle.voice_values.proofs.laws.bar_values_exist.Goals as goal

pub returns : goal.returns
returns c = values_of_a_bar_exist
