use Rattle.page_writer.proofs.OnePage.{pages_one}
use Rattle.page_writer.proofs.laws.pages_are_one.Goals as goal

pub returns : goal.returns
returns c = pages_one
