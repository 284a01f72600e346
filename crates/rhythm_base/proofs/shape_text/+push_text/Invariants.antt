use Rattle.std.proofs.Common.{◌+◌, ◌*◌}
use Rattle.rhythm_base.specs.Shape.{cuts, shape_of_parts}
use Rattle.rhythm_base.proofs.shape_text.+push_text.Given as goal

abbrev pub decreases-push_shape : goal.decreases-push_shape
decreases-push_shape l = 2 * cuts l.shape.now + 1

abbrev pub decreases-push_parts : goal.decreases-push_parts
decreases-push_parts l = 2 * cuts (shape_of_parts l.parts.now)
