use Rattle.session_history.proofs.TakenBack.{taken_back}
use Rattle.session_history.proofs.laws.undo_takes_an_edit_back.Goals as goal

pub returns : goal.returns
returns c = taken_back
