-- What holds of borders of least cost.
use Rattle.std.specs.Prelude.{◌≡◌, ℕ, List}
use Rattle.hand_borders.specs.Borders.{IsLeastBorders, least_borders}

-- the borders of least cost are of least cost
abbrev pub LeastBordersAreLeast : Type 0
LeastBordersAreLeast = (groups : List (List ℕ)) → IsLeastBorders groups (least_borders groups)

-- and no others are
abbrev pub LeastBordersAreOne : Type 0
LeastBordersAreOne =
    (groups : List (List ℕ)) (some others : List ℕ) → IsLeastBorders groups some → IsLeastBorders groups others → some ≡ others
