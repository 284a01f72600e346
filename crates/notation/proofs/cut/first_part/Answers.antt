use Rattle.std.proofs.Common.{arith}
use Rattle.notation.proofs.cut.first_part.Goals as goal

pub width-requires : goal.width-requires
width-requires c = record { dots = omega arith; some = c.requires }
