use Rattle.piece_laws.proofs.PieceBars.{pieces_bars}
use Rattle.piece_laws.proofs.laws.pieces_have_their_bars.Goals as goal

pub returns : goal.returns
returns c = pieces_bars
