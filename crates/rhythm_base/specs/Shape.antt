-- Shapes as plain data.
use Rattle.std.specs.Prelude.{ℕ, ◌+◌, ◌≤◌, List, [], ◌∷◌}
use Rattle.std.proofs.Common.{arith}
use denote.Param.Weighed.{most}

-- no shape, or a shape by its parts and the shapes after it
pub data Shape : Type 0 where
  end : Shape
  part : Shape → Shape → Shape

abbrev pub shape_of_parts : List Shape → Shape
shape_of_parts [] = end
shape_of_parts (x ∷ xs) = part x (shape_of_parts xs)

abbrev pub cuts : Shape → ℕ
cuts end = 0
cuts (part x rest) = cuts x + cuts rest + 1

pub most_le-cuts : (parts : List Shape) → most (λ x. cuts x + 1) parts ≤ cuts (shape_of_parts parts)
most_le-cuts [] = omega arith
most_le-cuts (x ∷ xs) = omega (arith, most_le-cuts xs)
