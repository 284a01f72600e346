use Rattle.session_history.proofs.TakenBack.{made_again}
use Rattle.session_history.proofs.laws.redo_takes_an_undo_back.Goals as goal

pub returns : goal.returns
returns c = made_again
