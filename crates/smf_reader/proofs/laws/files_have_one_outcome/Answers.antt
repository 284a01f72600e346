use Rattle.smf_reader.proofs.OneOutcome.{one_outcome}
use Rattle.smf_reader.proofs.laws.files_have_one_outcome.Goals as goal

pub returns : goal.returns
returns c = one_outcome
