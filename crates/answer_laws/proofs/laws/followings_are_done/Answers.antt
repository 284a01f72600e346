use Rattle.answer_laws.proofs.Followed.{followed_done}
use Rattle.answer_laws.proofs.laws.followings_are_done.Goals as goal

pub returns : goal.returns
returns c = λ g p edits readable editable answer. followed_done g readable p edits editable answer
