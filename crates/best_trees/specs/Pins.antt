-- The shapes that a pin demands, kept in a list from which each part of the pin is named by a number.
use Rattle.std.specs.Prelude.{◌≡◌, ℕ, ◌+◌, ◌<◌, ◌≤◌, max, nat_lt, true, if◌then◌else◌, List, [], ◌∷◌, ◌++◌, length, map, slice_index_or, Option, Some, None}
use Rattle.rhythm_base.specs.Forest.{Forest}
use Rattle.rhythm_base.specs.Shape.{Shape, end, part}
use Rattle.rhythm_base.specs.Trees.{are_trees}
use Rattle.rhythm_base.specs.declared.rule.Rule.{Rule}
use Rattle.tree_laws.specs.Forests.{AreWide, first_shape, has_shapes, one_shape, other_shapes}
use Rattle.best_trees.specs.Pieces.{piece_pair}
use Rattle.best_trees.specs.declared.cut.Piece.{Piece}
use Rattle.best_trees.specs.declared.pins.PinPart.{PinPart}
use Rattle.best_trees.specs.declared.pins.Demand.{Demand}
use Rattle.best_trees.specs.declared.pins.Demand.TheVariants.{Any, Nothing, Shapes}

-- the shapes of a number, and none where there is no number
abbrev pub outline_at : List Shape → Option ℕ → Shape
outline_at os None = end
outline_at os (Some i) = slice_index_or os i end

abbrev pub part_outline : List Shape → PinPart → Shape
part_outline os x = part (outline_at os x.parts) (outline_at os x.others)

-- the outlines of parts, each by those before it
abbrev pub outlines : List Shape → List PinPart → List Shape
outlines os [] = os
outlines os (x ∷ xs) = outlines (os ++ part_outline os x ∷ []) xs

-- the outline of a number below i
abbrev pub outline_before : List Shape → ℕ → Option ℕ → Shape
outline_before os i None = end
outline_before os i (Some n) = if nat_lt n i then slice_index_or os n end else end

-- what trees side by side are to be like
abbrev pub demanded : List Shape → Demand → Option Shape
demanded os Any = None
demanded os Nothing = Some end
demanded os (Shapes i) = Some (slice_index_or os i end)

-- nothing was lost, and outlines were added after
abbrev pub GrowsOutlines : List Shape → List Shape → Type 0
GrowsOutlines os ps = (xs : List Shape) × (ps ≡ os ++ xs)

-- this outline is kept under this number
abbrev pub HasOutline : List Shape → Option ℕ → Shape → Type 0
HasOutline os None x = x ≡ end
HasOutline os (Some i) x = (i < length os) × (slice_index_or os i end ≡ x)

-- the part of parts and of those after it is kept under this number
abbrev pub HasPart : List Shape → List Shape → Option ℕ → Option ℕ → ℕ → Type 0
HasPart os ps parts others n = (x y : Shape) → HasOutline os parts x → HasOutline os others y → HasOutline ps (Some n) (part x y)

-- what is demanded below the first tree, and of the trees after it
abbrev pub IsSplitOf : List Shape → Demand → Demand × Demand → Type 0
IsSplitOf os demand q = (first_shape (demanded os demand) ≡ one_shape (demanded os q.0)) × (other_shapes (demanded os demand) ≡ demanded os q.1)

-- ---- leaves

-- how many leaves trees of these shapes have
abbrev pub leaf_count : Shape → ℕ
leaf_count end = 0
leaf_count (part x xs) = max 1 (leaf_count x) + leaf_count xs

-- how many they have at least, where shapes are demanded
abbrev pub least_leaves : Option Shape → ℕ
least_leaves None = 0
least_leaves (Some shapes) = leaf_count shapes

-- no part counts more leaves than it and those after it have
abbrev pub AreCounted : List PinPart → Type 0
AreCounted xs = (i : ℕ) (d : PinPart) → i < length xs → (slice_index_or xs i d).leaves ≤ leaf_count (outline_at (outlines [] xs) (Some i))

-- no trees of these widths and symbols have the shapes, by whatever rules
abbrev pub NoneFit : List (ℕ × ℕ) → Option Shape → Type 0
NoneFit qs shapes = (rules : List Rule) (f : Forest) → are_trees rules qs f ≡ true → has_shapes shapes f ≡ true → ⊥

-- no trees over these pieces are as demanded, where each is some units wide
abbrev pub HaveNoRoom : List Shape → Demand → List Piece → Type 0
HaveNoRoom os demand pieces = AreWide (map piece_pair pieces) → NoneFit (map piece_pair pieces) (demanded os demand)
