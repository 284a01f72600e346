use Rattle.durations.proofs.ValuesExist.{written_exist}
use Rattle.durations.proofs.laws.written_exist.Goals as goal

pub returns : goal.returns
returns c = written_exist
