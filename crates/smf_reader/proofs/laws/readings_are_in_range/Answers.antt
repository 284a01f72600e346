use Rattle.smf_reader.proofs.ReadInRange.{in_range}
use Rattle.smf_reader.proofs.laws.readings_are_in_range.Goals as goal

pub returns : goal.returns
returns c = in_range
