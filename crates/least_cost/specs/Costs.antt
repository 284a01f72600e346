-- What the least trees of a cell cost, for the numbers of chords carried in that are asked for.
use Rattle.std.specs.Prelude.{◌≡◌, ℕ, Bool, true, false, List, slice_index_or, Option, None}
use Rattle.chain_bars.specs.Tower.{best_cost}
use Rattle.rhythm_base.specs.BarInput.{BarInput}
use Rattle.rhythm_base.specs.BarTables.{BarTable, IsTable}
use Rattle.rhythm_base.specs.Grammar.{Grammar}
use Rattle.rhythm_base.specs.Ranked.{CarryMatrix, at, five}
use Rattle.rhythm_base.specs.declared.best.Best.{Best}

-- the cost of an entry, where it is asked for
abbrev pub asked_cost : Bool → Option Best → Option ℕ
asked_cost true best = best_cost best
asked_cost false best = None

-- the costs of the entries, for the numbers carried in that are asked for, and none for the others
unfoldable pub asked_costs : CarryMatrix → List Bool → List (List (Option ℕ))
asked_costs m asked = five (λ from. five (λ to. asked_cost (slice_index_or asked from false) (at m from to)))

-- they are the costs of the table of the cell by the grammar
pub record AreCostsOf (g : Grammar) (k : BarInput) (asked : List Bool) (costs : List (List (Option ℕ))) : Type 0 where
  pub table : BarTable
  pub is : IsTable g table
  pub of_input : table.input ≡ k
  pub costs_are : costs ≡ asked_costs table.matrix asked
