-- The laws, each as one statement over the definitions.
use Rattle.std.specs.Prelude.{◌≡◌, ℕ, ◌↔◌, List, [], ◌∷◌, ◌++◌, None, Some}
use Rattle.rhythm_base.specs.declared.best.Best.{Best}
use Rattle.rhythm_base.specs.Forest.{none}
use Rattle.rhythm_base.specs.Paths.{IsRanked}
use Rattle.rhythm_base.specs.Ranked.{CarryMatrix, at, product_of, table}
use Rattle.path_laws.specs.Meetings.{IsNoLater, Meeting, sum_of}
use Rattle.path_laws.specs.Tables.{AllRanked}

-- the table of a list of ranked matrices, and of another after it, is the product of the two tables
abbrev pub TablesMultiply : Type 0
TablesMultiply = (es fs : List CarryMatrix) → AllRanked es → table (es ++ fs) ≡ product_of (table es) (table fs)

-- the table of one ranked matrix is that matrix
abbrev pub OneTableIsItsOwn : Type 0
OneTableIsItsOwn = (m : CarryMatrix) → IsRanked m → table (m ∷ []) ≡ m

-- An entry of the product of two ranked matrices: none exactly where none of the one meets one of the other, and else the
-- sum of two that meet, no later than any others that do.
pub record ProductsTakeTheLeast : Type 0 where
  pub none : (a b : CarryMatrix) (from to : ℕ) → IsRanked a → IsRanked b → (at (product_of a b) from to ≡ None) ↔ (Meeting a b from to → ⊥)
  pub least : (a b : CarryMatrix) (from to : ℕ) (e : Best) → IsRanked a → IsRanked b → at (product_of a b) from to ≡ Some e
      → (x : Meeting a b from to) × (e.cost ≡ sum_of x) × ((y : Meeting a b from to) → IsNoLater x y)
