use Rattle.piece_laws.proofs.PieceBars.{pieces_notes}
use Rattle.piece_laws.proofs.laws.pieces_keep_their_notes.Goals as goal

pub returns : goal.returns
returns c = pieces_notes
