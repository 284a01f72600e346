use Rattle.render_laws.proofs.ReadFile.{files_read_back}
use Rattle.render_laws.proofs.laws.rendered_files_read_back.Goals as goal

pub returns : goal.returns
returns c = files_read_back
