use Rattle.session_history.proofs.Histories.{edited_one, redone_one, undone_one}
use Rattle.session_history.proofs.laws.changes_are_one.Goals as goal

pub returns : goal.returns
returns c = record { edited = edited_one; undone = undone_one; redone = redone_one }
