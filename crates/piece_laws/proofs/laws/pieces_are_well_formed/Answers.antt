use Rattle.piece_laws.proofs.FormedPieces.{pieces_formed}
use Rattle.piece_laws.proofs.laws.pieces_are_well_formed.Goals as goal

pub returns : goal.returns
returns c = pieces_formed
