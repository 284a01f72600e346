-- The rule lists of the trees that the least path over the tables of a voice picks.
use Rattle.std.specs.Prelude.{⊤, ◌≡◌, ℕ, List, [], ◌∷◌, Some}
use Rattle.chain_bars.specs.Laws.{matrices}
use Rattle.rhythm_base.specs.BarTables.{BarTable, IsTable, list_at}
use Rattle.rhythm_base.specs.Grammar.{Grammar}
use Rattle.rhythm_base.specs.Paths.{IsLeastPath}
use Rattle.rhythm_base.specs.Ranked.{Key}

-- a table of the grammar, for bars of the grammar's units
pub record IsTableIn (g : Grammar) (table : BarTable) : Type 0 where
  pub is : IsTable g table
  pub units : table.input.resolution ≡ g.resolution

-- each bar's list is that which stands in its table at the counts a and m round the bar
abbrev pub AreListed : List BarTable → ℕ → List ℕ → List (List ℕ) → Type 0
AreListed [] a [] [] = ⊤
AreListed [] a [] (l ∷ ls) = ⊥
AreListed [] a (m ∷ p) ls = ⊥
AreListed (x ∷ tables) a [] ls = ⊥
AreListed (x ∷ tables) a (m ∷ p) [] = ⊥
AreListed (x ∷ tables) a (m ∷ p) (l ∷ ls) = (list_at x a m ≡ Some l) × AreListed tables m p ls

-- the lists that stand in the tables at the counts of the least path
pub record AreOfLeastPath (tables : List BarTable) (lists : List (List ℕ)) : Type 0 where
  pub path : List ℕ
  pub key : Key
  pub least : IsLeastPath (matrices tables) 0 0 path key
  pub listed : AreListed tables 0 path lists
