use Rattle.page_laws.proofs.Pages.{pages_read}
use Rattle.page_laws.proofs.laws.pages_are_read_back.Goals as goal

pub returns : goal.returns
returns c = pages_read
