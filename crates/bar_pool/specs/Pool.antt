-- What is built of a list of cells.
use Rattle.std.specs.Prelude.{◌≡◌, ℕ, ◌≤◌, List}
use Rattle.rhythm_base.specs.BarInput.{BarInput}
use Rattle.rhythm_base.specs.BarTables.{BarTable, IsTable}
use Rattle.rhythm_base.specs.Counter.{risen}
use Rattle.rhythm_base.specs.Grammar.{Grammar}
use Rattle.rhythm_base.specs.Lists.{Each}

-- the table of the input by the grammar
pub record IsTableOf (g : Grammar) (input : BarInput) (table : BarTable) : Type 0 where
  pub is : IsTable g table
  pub of_input : table.input ≡ input

-- the table of each input, in their order
abbrev pub AreTablesOf : Grammar → List BarInput → List BarTable → Type 0
AreTablesOf g inputs tables = Each (IsTableOf g) inputs tables

-- a counter rose, and by no more than so many steps
abbrev pub RisesWithin : ℕ → ℕ → ℕ → Type 0
RisesWithin old new most = (old ≤ new) × (new ≤ risen old most)
