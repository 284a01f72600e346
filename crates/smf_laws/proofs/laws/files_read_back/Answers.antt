use Rattle.smf_laws.proofs.Files.{files_read}
use Rattle.smf_laws.proofs.laws.files_read_back.Goals as goal

pub returns : goal.returns
returns c = files_read
