use Rattle.page_writer.proofs.OnePage.{some_page}
use Rattle.page_writer.proofs.laws.pages_exist.Goals as goal

pub returns : goal.returns
returns c = some_page
