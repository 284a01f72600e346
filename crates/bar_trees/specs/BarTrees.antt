-- The least trees of a whole bar.
use Rattle.std.specs.Prelude.{◌≡◌, [], ◌∷◌, None}
use Rattle.rhythm_base.specs.BarInput.{BarInput}
use Rattle.rhythm_base.specs.Grammar.{Grammar}
use Rattle.rhythm_base.specs.Ranked.{Keys, table_of}
use Rattle.tree_laws.specs.Forests.{AreLeast}
use Rattle.row_laws.specs.Grounds.{ground_of}
use Rattle.bar_trees.specs.WrittenLists.{AreListsWritten, IsListAt}
use Rattle.bar_trees.specs.declared.trees.BarTrees.{BarTrees}

-- these are the least trees of the cell's root symbol over the whole bar: the cost of each, the number of lower rule lists in its
-- row, and its rule list
pub record AreBarTrees (g : Grammar) (k : BarInput) (trees : BarTrees) : Type 0 where
  pub keys : Keys
  pub least : AreLeast (ground_of g k) None 0 ((k.resolution, k.symbol) ∷ []) keys
  pub bests : trees.bests.rows ≡ table_of keys
  pub lists : AreListsWritten (IsListAt keys) trees.lists.rules.items trees.lists.ends 25
