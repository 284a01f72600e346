use Rattle.smf_writer.proofs.OneFile.{files_one}
use Rattle.smf_writer.proofs.laws.rendered_files_are_one.Goals as goal

pub returns : goal.returns
returns c = files_one
