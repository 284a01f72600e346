use Rattle.std.proofs.Common.{◌+◌, ◌*◌}
use Rattle.rhythm_base.specs.Shape.{cuts, shape_of_parts}
use Rattle.rhythm_base.proofs.shape.+same.Given as goal

abbrev pub decreases-Shape::same : goal.decreases-Shape::same
decreases-Shape::same l = 2 * cuts l.self.now + 1

abbrev pub decreases-same_parts : goal.decreases-same_parts
decreases-same_parts l = 2 * cuts (shape_of_parts l.parts.now)
