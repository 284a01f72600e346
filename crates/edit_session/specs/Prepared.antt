-- What an edit leads to, made ready: the performance after it and the tables of the cells that it reaches.
use Rattle.rhythm_base.specs.declared.limits.TheConstants.{MOST_CELLS, MOST_NOTES}
use Rattle.std.specs.Prelude.{◌≡◌, ℕ, ◌+◌, ◌*◌, ◌-◌, ◌≤◌, List, All, length, filter, map, nat_lt}
use Rattle.edit_session.specs.Opening.{cells_of}
use Rattle.rhythm_base.specs.BarTables.{BarTable, IsTable}
use Rattle.rhythm_base.specs.Counter.{risen}
use Rattle.rhythm_base.specs.Grammar.{Grammar}
use Rattle.rhythm_base.specs.Performance.{Performance}
use Rattle.edit_laws.specs.Reached.{AreReached, IsInputOf}
use Rattle.rhythm_base.specs.Voices.{HasStarts}

-- the table of the cell of that voice and bar
pub record CellTable : Type 0 where
  pub channel : ℕ
  pub bar : ℕ
  pub table : BarTable

-- the performance that comes next, tables of its cells, and for how many tables that are taken out there is room
pub record Prepared : Type 0 where
  pub next : Performance
  pub tables : List CellTable
  pub place : ℕ

-- a counter rose by a number of which P says something
abbrev pub RisesBy : ℕ → ℕ → (ℕ → Type 0) → Type 0
RisesBy old new P = (n : ℕ) × (new ≡ risen old n) × P n

abbrev pub cell_of : CellTable → ℕ × ℕ
cell_of x = (x.channel, x.bar)

-- the table is that of the cell's input
pub record IsTableOfCell (g : Grammar) (p : Performance) (channel bar : ℕ) (table : BarTable) : Type 0 where
  pub is : IsTable g table
  pub of_input : IsInputOf g p channel bar table.input

abbrev pub bar_table_of : CellTable → BarTable
bar_table_of x = x.table

abbrev pub IsCellTable : Grammar → Performance → CellTable → Type 0
IsCellTable g p x = IsTableOfCell g p x.channel x.bar x.table

-- how many tables a session on p gives up for these: those of the same cells, and those of the bars that are no more, of all voices
abbrev pub given_up : Performance → Prepared → ℕ
given_up p x = length (filter (λ t. nat_lt t.bar (length p.bars)) x.tables) + length p.channels * (length p.bars - length x.next.bars)

-- it suits a session on p: the voices are the same, and it has the tables of the reached cells alone
pub record Suits (g : Grammar) (p : Performance) (x : Prepared) : Type 0 where
  pub channels : x.next.channels ≡ p.channels
  pub starts : HasStarts g x.next.bars
  pub few_cells : cells_of x.next ≤ MOST_CELLS
  pub few_notes : length x.next.notes ≤ MOST_NOTES
  pub reached : AreReached g p x.next (map cell_of x.tables)
  pub tables : All (IsCellTable g x.next) x.tables
  pub place : given_up p x ≤ x.place
