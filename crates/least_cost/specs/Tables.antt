-- The rule lists of a table.
use Rattle.std.specs.Prelude.{◌≡◌, ℕ, ◌<◌, List, [], ◌∷◌, Option, Some, None}
use Rattle.rhythm_base.specs.BarInput.{BarInput}
use Rattle.rhythm_base.specs.BarTables.{BarTable}
use Rattle.rhythm_base.specs.Grammar.{Grammar}
use Rattle.rhythm_base.specs.Ranked.{CarryMatrix, Keys, at, five, table_of}
use Rattle.rhythm_base.specs.declared.best.Best.{Best}
use Rattle.tree_laws.specs.Forests.{AreLeast, one_shape}
use Rattle.row_laws.specs.Grounds.{ground_of}
use Rattle.bar_trees.specs.WrittenLists.{AreListsWritten, IsListAt, IsPlaced, list_of, list_number}

-- the list where there is an entry
abbrev pub list_where : Option Best → List ℕ → Option (List ℕ)
list_where None xs = None
list_where (Some e) xs = Some xs

-- the lists of the entries that are there
abbrev pub lists_of : CarryMatrix → List ℕ → List ℕ → List (List (Option (List ℕ)))
lists_of m rules ends = five (λ a. five (λ b. list_where (at m a b) (list_of rules ends (list_number a b))))

-- the table of these costs and rule lists, for an input
abbrev pub table_with : CarryMatrix → (rules ends : List ℕ) → BarInput → BarTable
table_with m rules ends k = record { matrix = m; lists = lists_of m rules ends; input = k }

-- all lists lie in the rules
abbrev pub AreAllPlaced : List ℕ → List ℕ → Type 0
AreAllPlaced rules ends = (n : ℕ) → n < 25 → IsPlaced rules ends n

-- these are the least trees of the cell's root symbol over the whole bar, of the shape of its pin where it has one: the cost of
-- each, the number of lower rule lists in its row, and its rule list
pub record AreCellTrees (g : Grammar) (k : BarInput) (bests : CarryMatrix) (rules ends : List ℕ) : Type 0 where
  pub keys : Keys
  pub least : AreLeast (ground_of g k) (one_shape k.pin) 0 ((k.resolution, k.symbol) ∷ []) keys
  pub matrix : bests ≡ table_of keys
  pub lists : AreListsWritten (IsListAt keys) rules ends 25
