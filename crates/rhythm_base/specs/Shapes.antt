-- What a contract sees of a shape, and which shapes are trees of a grammar.
use Rattle.rhythm_base.specs.declared.limits.TheConstants.{MOST_PARTS, MOST_LEVELS_BELOW}
use Rattle.std.specs.Prelude.{ℕ, ◌+◌, ◌≤◌, Bool, true, ◌&&◌, ◌||◌, ◌==◌, nat_le, length, max}
use Rattle.rhythm_base.specs.declared.shape.Node.{Node}
use Rattle.rhythm_base.specs.declared.shape.Node.TheVariants.{Leaf, Cut}
use Rattle.rhythm_base.specs.Shape.{Shape, end, part, shape_of_parts}

abbrev pub shape_of_node : Node → Shape
shape_of_node Leaf = end
shape_of_node (Cut parts) = shape_of_parts parts.items

abbrev pub HasParts : Node → Type 0
HasParts Leaf = Unit {0}
HasParts (Cut parts) = (2 ≤ length parts.items) × (length parts.items ≤ MOST_PARTS)

-- the number of parts: none for a leaf
abbrev pub parts_in : Shape → ℕ
parts_in end = 0
parts_in (part x rest) = parts_in rest + 1

-- a leaf, or a cut into 2 to 16 parts
abbrev pub can_have : ℕ → Bool
can_have n = (n == 0) || (nat_le 2 n && nat_le n MOST_PARTS)

-- each of the parts is a leaf or a cut into 2 to 16 parts, and so are theirs
abbrev pub are_cut : Shape → Bool
are_cut end = true
are_cut (part x rest) = can_have (parts_in x) && (are_cut x && are_cut rest)

-- how many levels lie below: none below a leaf
abbrev pub depth : Shape → ℕ
depth end = 0
depth (part x rest) = max (depth x + 1) (depth rest)

-- a shape has 2 to 16 parts at each cut, and at most 96 levels: a leaf has one, a cut one more than its deepest part
abbrev pub is_shape : Shape → Bool
is_shape x = can_have (parts_in x) && (are_cut x && nat_le (depth x) MOST_LEVELS_BELOW)
