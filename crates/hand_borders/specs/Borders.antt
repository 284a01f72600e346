-- Lists of borders, what they cost, and the one that costs least.
use Rattle.std.specs.Prelude.{◌≡◌, ◌≢◌, ℕ, zero, suc, ◌+◌, ◌*◌, ◌<◌, ◌≤◌, nat_lt, List, [], ◌∷◌, length, map, slice_index}
use Rattle.std.specs.List.{best_of, flat_map, range_with_len}
use Rattle.std.specs.Ordering.{nat_cmp}
use Rattle.std.specs.Cmp.Lexicographic.{slice_cmp}
use Rattle.std.specs.declared.cmp.Ordering.TheVariants.{Less}
use Rattle.rhythm_base.specs.Lists.{Each, gap}

-- ---- what borders cost

-- each key that the border moves from a group to the next costs 200
abbrev pub move_cost : ℕ → List ℕ → ℕ
move_cost b [] = 0
move_cost b (next ∷ borders) = 200 * gap b next

-- what each group costs at its border, and what the border's moves cost. A group's costs stand by border
abbrev pub cost_of : List (List ℕ) → List ℕ → ℕ
cost_of [] borders = 0
cost_of (group ∷ groups) [] = 0
cost_of (group ∷ groups) (b ∷ borders) = slice_index group b + (move_cost b borders + cost_of groups borders)

-- ---- the least

-- a border for each group, 0 to 128
abbrev pub AreBorders : List (List ℕ) → List ℕ → Type 0
AreBorders groups borders = Each (λ group b. b < 129) groups borders

-- no list of borders costs less, and none that costs as much comes before it in the order of words
pub record IsLeastBorders (groups : List (List ℕ)) (borders : List ℕ) : Type 0 where
  pub are : AreBorders groups borders
  pub least : (others : List ℕ) → AreBorders groups others → cost_of groups borders ≤ cost_of groups others
  pub first : (others : List ℕ) → AreBorders groups others → cost_of groups others ≡ cost_of groups borders
      → slice_cmp nat_cmp others borders ≢ Less

-- ---- the same as a function

-- all lists of borders of so many groups, in the order of words
abbrev pub all_borders : ℕ → List (List ℕ)
all_borders zero = [] ∷ []
all_borders (suc n) = flat_map (λ b. map (λ borders. b ∷ borders) (all_borders n)) (range_with_len 0 129)

-- the first of the lists that cost least
abbrev pub first_least : List (List ℕ) → List (List ℕ) → List ℕ
first_least groups [] = []
first_least groups (borders ∷ lists) = best_of (λ x y. nat_lt (cost_of groups x) (cost_of groups y)) borders lists

-- the borders of least cost
unfoldable pub least_borders : List (List ℕ) → List ℕ
least_borders groups = first_least groups (all_borders (length groups))
