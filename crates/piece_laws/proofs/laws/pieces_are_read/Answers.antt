use Rattle.piece_laws.proofs.Files.{pieces_read}
use Rattle.piece_laws.proofs.laws.pieces_are_read.Goals as goal

pub returns : goal.returns
returns c = pieces_read
