-- The best of each pair of counts: those of chords carried in and out.
use Rattle.std.specs.Prelude.{◌≡◌, ℕ, zero, suc, ◌+◌, ◌*◌, ◌&&◌, ◌==◌, ◌<◌, Bool, if◌then◌else◌, List, [], map, slice_index_or}
use Rattle.rhythm_base.specs.Ranked.{Key, Keys, plus}
use Rattle.best_trees.specs.Firsts.{AreAddable, first_key, offered, sums_offered}
use Rattle.best_trees.specs.declared.grid.Sides.{Sides}

-- the list for the counts `from` and `to`
abbrev pub ranking_at : List (List Key) → ℕ → ℕ → List Key
ranking_at grid from to = slice_index_or grid (5 * from + to) []

-- the first of each
abbrev pub first_keys : List (List Key) → Keys
first_keys grid from to = first_key (ranking_at grid from to)

-- it has a list for each pair of counts
abbrev pub HasLists : (ℕ → ℕ → List Key) → List (List Key) → Type 0
HasLists lists grid = (from to : ℕ) → from < 5 → to < 5 → ranking_at grid from to ≡ lists from to

-- these counts and no others
abbrev pub is_pair : ℕ → ℕ → ℕ → ℕ → Bool
is_pair from to a b = (a == from) && (b == to)

-- the key was offered to the lists of some pairs of counts, and the others are as they were
abbrev pub HasOffered : ℕ → (ℕ → ℕ → Bool) → Key → List (List Key) → List (List Key) → Type 0
HasOffered count some key old new = HasLists (λ a b. if some a b then offered count key (ranking_at old a b) else ranking_at old a b) new

abbrev pub AreAllAddable : List (List Key) → Type 0
AreAllAddable grid = (from to : ℕ) → from < 5 → to < 5 → AreAddable (ranking_at grid from to)

-- what was offered over the counts before n between trees on the left and others on the right, each with the top before it
abbrev pub joined_below : ℕ → Key → List (List Key) → List (List Key) → ℕ → ℕ → List Key → ℕ → List Key
joined_below count top left right from to old zero = old
joined_below count top left right from to old (suc n) =
    sums_offered count (map (plus top) (ranking_at left from n)) (ranking_at right n to) (joined_below count top left right from to old n)

unfoldable pub joined_row : ℕ → Key → List (List Key) → List (List Key) → ℕ → ℕ → List Key → List Key
joined_row count top left right from to old = joined_below count top left right from to old 5

-- a list after the trees on both sides, side by side, were offered to it
abbrev pub joined_at : ℕ → Sides → ℕ → ℕ → List Key → List Key
joined_at count sides from to old = joined_row count (sides.cost, sides.top.now) sides.left.now sides.right.now from to old

-- they were offered to each list
abbrev pub HasJoined : ℕ → Sides → List (List Key) → List (List Key) → Type 0
HasJoined count sides old new = HasLists (λ a b. joined_at count sides a b (ranking_at old a b)) new
