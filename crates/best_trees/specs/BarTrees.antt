-- The best trees of a whole bar.
use Rattle.std.specs.Prelude.{◌≡◌, ℕ, List, [], ◌∷◌, ◌++◌, Option}
use Rattle.rhythm_base.specs.BarInput.{BarInput}
use Rattle.rhythm_base.specs.Grammar.{Grammar}
use Rattle.rhythm_base.specs.Ranked.{Key, Keys, table_of}
use Rattle.rhythm_base.specs.Shape.{Shape}
use Rattle.tree_laws.specs.Forests.{AreLeast, one_shape}
use Rattle.row_laws.specs.Grounds.{ground_of}
use Rattle.bar_trees.specs.WrittenLists.{AreListsWritten, IsListAt, IsListOf}
use Rattle.bar_trees.specs.declared.trees.BarTrees.{BarTrees}
use Rattle.bar_trees.specs.declared.written_lists.WrittenLists.{WrittenLists}
use Rattle.best_trees.specs.Grids.{first_keys}
use Rattle.best_trees.specs.Nodes.{AreBestForests}

-- for each pair of counts, the first `count` of the trees of the cell's root symbol over the whole bar, of the shape where one is
-- demanded
abbrev pub AreBestBarTrees : Grammar → BarInput → Option Shape → ℕ → List (List Key) → Type 0
AreBestBarTrees g k shape count grid = AreBestForests (ground_of g k) (one_shape shape) count 0 ((k.resolution, k.symbol) ∷ []) grid

-- the rule list of the tree, where it is there, was written after what stood there
abbrev pub IsWritten : Option Key → List ℕ → List ℕ → Type 0
IsWritten tree old new = (more : List ℕ) × (new ≡ old ++ more) × IsListOf tree more

-- the rule lists of the first trees for the first n pairs of counts are written
abbrev pub AreFirstsWritten : List (List Key) → WrittenLists → ℕ → Type 0
AreFirstsWritten grid written n = AreListsWritten (IsListAt (first_keys grid)) written.rules.items written.ends n

-- these are the least trees of the cell's root symbol over the whole bar, of the shape of its pin where it has one: the cost of
-- each, the number of lower rule lists in its row, and its rule list
pub record ArePinnedTrees (g : Grammar) (k : BarInput) (trees : BarTrees) : Type 0 where
  pub keys : Keys
  pub least : AreLeast (ground_of g k) (one_shape k.pin) 0 ((k.resolution, k.symbol) ∷ []) keys
  pub bests : trees.bests.rows ≡ table_of keys
  pub lists : AreListsWritten (IsListAt keys) trees.lists.rules.items trees.lists.ends 25
