use Rattle.std.proofs.Common.{arith}
use Rattle.piece_laws.proofs.PieceBars.{pieces_bars, pieces_notes}
use Rattle.drill_run.proofs.Pieces.{load_without_fault, loading_of, two_voices}
use Rattle.drill_run.proofs.piece.made_performance.Goals as goal

pub returns-in-Ok-clause-loading : goal.returns-in-Ok-clause-loading
returns-in-Ok-clause-loading c = loading_of c.args.number 500 c.in_ok-played.played c.in-Ok.performance (omega arith) (omega arith) c.in_ok-played.ensures.says c.in-Ok.ensures

pub returns-in-Ok-clause-bars : goal.returns-in-Ok-clause-bars
returns-in-Ok-clause-bars c =
    pieces_bars.count c.args.number 500 c.in-Ok.performance
    (loading_of c.args.number 500 c.in_ok-played.played c.in-Ok.performance (omega arith) (omega arith) c.in_ok-played.ensures.says c.in-Ok.ensures)

pub returns-in-Ok-clause-last : goal.returns-in-Ok-clause-last
returns-in-Ok-clause-last c =
    pieces_bars.last c.args.number 500 c.in-Ok.performance
    (loading_of c.args.number 500 c.in_ok-played.played c.in-Ok.performance (omega arith) (omega arith) c.in_ok-played.ensures.says c.in-Ok.ensures)

pub returns-in-Ok-clause-channels : goal.returns-in-Ok-clause-channels
returns-in-Ok-clause-channels c =
    two_voices c.args.number 500 c.in-Ok.performance
    (loading_of c.args.number 500 c.in_ok-played.played c.in-Ok.performance (omega arith) (omega arith) c.in_ok-played.ensures.says c.in-Ok.ensures)

pub returns-in-Ok-clause-notes : goal.returns-in-Ok-clause-notes
returns-in-Ok-clause-notes c =
    pieces_notes.many c.args.number 500 c.in-Ok.performance
    (loading_of c.args.number 500 c.in_ok-played.played c.in-Ok.performance (omega arith) (omega arith) c.in_ok-played.ensures.says c.in-Ok.ensures)

pub unreachable-requires : goal.unreachable-requires
unreachable-requires c =
    c.in_default.not-Memory (load_without_fault c.args.number 500 c.in_ok-played.played c.in-Err.fault (omega arith) (omega arith) c.in_ok-played.ensures.says c.in-Err.ensures)
