use Rattle.session_history.proofs.Histories.{edited_kept, redone_kept, undone_kept}
use Rattle.session_history.proofs.laws.changes_keep_histories.Goals as goal

pub returns : goal.returns
returns c = record { edited = edited_kept; undone = undone_kept; redone = redone_kept }
