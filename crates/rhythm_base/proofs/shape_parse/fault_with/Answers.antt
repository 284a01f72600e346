use Rattle.std.proofs.Common.{arith}
use Rattle.rhythm_base.proofs.ShapeFaults.{bad_byte, cut_short}
use Rattle.rhythm_base.proofs.shape_parse.fault_with.Goals as goal

pub returns-then-left-eq0 : goal.returns-then-left-eq0
returns-then-left-eq0 c = cut_short c.args.text.now c.args.left c.if-left-eq0.true c.requires

pub returns-else-left-eq0 : goal.returns-else-left-eq0
returns-else-left-eq0 c = bad_byte c.args.text.now c.args.left (omega (arith, c.if-left-eq0.false)) c.requires
