use Rattle.kern_laws.proofs.OnlyValueTexts.{only_value_texts_are_read}
use Rattle.kern_laws.proofs.laws.only_value_texts_are_read.Goals as goal

pub returns : goal.returns
returns c = only_value_texts_are_read
