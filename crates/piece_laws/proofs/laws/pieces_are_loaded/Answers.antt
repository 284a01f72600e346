use Rattle.piece_laws.proofs.PieceBars.{pieces_loaded}
use Rattle.piece_laws.proofs.laws.pieces_are_loaded.Goals as goal

pub returns : goal.returns
returns c = pieces_loaded
