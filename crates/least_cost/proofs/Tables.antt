-- Each cell has a table: the table of the least keys of its root symbol.
use Rattle.std.proofs.Common.{◌≡◌, ℕ, ◌+◌, ◌<◌, List, [], ◌∷◌, refl, ap, ◌∙◌, arith}
use Rattle.std.specs.Prelude.{None, slice_index_or}
use Rattle.rhythm_base.specs.BarInput.{BarInput}
use Rattle.rhythm_base.specs.BarTables.{BarTable, IsTable, list_at}
use Rattle.rhythm_base.specs.Grammar.{Grammar}
use Rattle.rhythm_base.specs.Ranked.{Keys, five, table_of}
use Rattle.row_laws.specs.Grounds.{IsReady, ground_of}
use Rattle.tree_laws.specs.Forests.{AreLeast, one_shape}
use Rattle.tree_laws.specs.Shares.{AreBelow}
use Rattle.path_laws.proofs.Products.{five_at}
use Rattle.least_cost.proofs.Roots.{root-table}
use Rattle.least_cost.proofs.TableLists.{key_list}
use Rattle.least_cost.proofs.LeastForests.{forest_least}

module _ (g : Grammar) (k : BarInput) (ready : IsReady g k) where
  abbrev pub root : List (ℕ × ℕ)
  root = (k.resolution, k.symbol) ∷ []

  pub root_below : AreBelow (k.resolution + 1) root
  root_below = (ready.cell.some_unit, omega arith, tt)

  abbrev pub keys : Keys
  keys a b = (forest_least (ground_of g k) (one_shape k.pin) 0 root a b (k.resolution + 1) root_below).0

  pub keys_least : AreLeast (ground_of g k) (one_shape k.pin) 0 root keys
  keys_least a b la lb = (forest_least (ground_of g k) (one_shape k.pin) 0 root a b (k.resolution + 1) root_below).1 la lb

  abbrev pub table : BarTable
  table = record { matrix = table_of keys; lists = five (λ a. five (λ b. key_list (keys a b))); input = k }

  lists_are : (a b : ℕ) → a < 5 → b < 5 → list_at table a b ≡ key_list (keys a b)
  lists_are a b la lb = ap (λ row. slice_index_or row b None) (five_at (λ a. five (λ b. key_list (keys a b))) [] a la) ∙ five_at (λ b. key_list (keys a b)) None b lb

  pub is_table : IsTable g table
  is_table = root-table g k ready keys keys_least table refl lists_are

  pub some_table : (table : BarTable) × IsTable g table × (table.input ≡ k)
  some_table = (table, is_table, refl)
