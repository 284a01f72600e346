use Rattle.std.proofs.Common.{arith}
use Rattle.rhythm_ports.proofs.Pieces.{Appends-more}
use Rattle.rhythm_ports.proofs.sink.write_all.Goals as goal

pub pieces-preserved : goal.pieces-preserved
pieces-preserved g c =
    let old = c.pieces.invariant in
    let more = Appends-more _ _ _ _ _ _ old.within old.taken c.in-Ok.ensures.bound c.in-Ok.ensures.bytes in
    record { within = more.0; taken = more.1; later = omega (arith, c.in-Ok.ensures.cause.later) }
