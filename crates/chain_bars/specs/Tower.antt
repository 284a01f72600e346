-- Levels of partial products: each has the products of two neighbours of the one below, and a lone last one as it is.
use Rattle.rhythm_base.specs.declared.limits.TheConstants.{MOST_BARS, DEAREST_CELL}
use Rattle.std.specs.Prelude.{◌≡◌, ℕ, ◌+◌, ◌/◌, ◌<◌, ◌≤◌, List, [], ◌∷◌, length, slice_index_or, Option, Some, None}
use Rattle.std.proofs.Common.{zero, suc}
use Rattle.rhythm_base.specs.declared.best.Best.{Best}
use Rattle.rhythm_base.specs.Paths.{AreCheap}
use Rattle.rhythm_base.specs.Ranked.{CarryMatrix, Key, product_of}
use Rattle.path_laws.specs.Tables.{AllRanked}

-- ---- what stands above the cells

abbrev pub level_above : List CarryMatrix → List CarryMatrix
level_above [] = []
level_above (x ∷ []) = x ∷ []
level_above (x ∷ y ∷ es) = product_of x y ∷ level_above es

-- what stands above the places 2 k and 2 k + 1
abbrev pub node_at : List CarryMatrix → ℕ → CarryMatrix
node_at [] k = []
node_at (x ∷ []) zero = x
node_at (x ∷ []) (suc k) = []
node_at (x ∷ y ∷ es) zero = product_of x y
node_at (x ∷ y ∷ es) (suc k) = node_at es k

-- the level so many above the cells
abbrev pub level_of : List CarryMatrix → ℕ → List CarryMatrix
level_of es zero = es
level_of es (suc k) = level_above (level_of es k)

-- how many nodes the level k has above n cells
abbrev pub halved : ℕ → ℕ → ℕ
halved n zero = n
halved n (suc k) = (halved n k + 1) / 2

-- ---- cells

pub record AreCells (cells : List CarryMatrix) : Type 0 where
  pub few : length cells ≤ MOST_BARS
  pub some : 1 ≤ length cells
  pub ranked : AllRanked cells
  pub cheap : AreCheap DEAREST_CELL cells

-- ---- levels

-- a level: its nodes, and for how many nodes it has memory
pub record Level : Type 0 where
  pub nodes : List CarryMatrix
  pub room : ℕ

abbrev pub tier : List Level → ℕ → Level
tier ls k = slice_index_or ls k (record { nodes = []; room = 0 })

abbrev pub level : List Level → ℕ → List CarryMatrix
level ls k = (tier ls k).nodes

abbrev pub room_at : List Level → ℕ → ℕ
room_at ls k = (tier ls k).room

-- the cells and what stands above them: at the thirteenth level a single node stands above up to 4,096 cells
pub record IsTower (cells : List CarryMatrix) (ls : List Level) : Type 0 where
  pub count : length ls ≡ 13
  pub each : (k : ℕ) → k < 13 → level ls k ≡ level_of cells k

-- each level has memory for what stands there above n cells
abbrev pub HasRoom : ℕ → List Level → Type 0
HasRoom n ls = (k : ℕ) → k < 13 → halved n k ≤ room_at ls k

-- the levels of a chain that has memory for so many cells
pub record IsChain (ls : List Level) (room : ℕ) : Type 0 where
  pub cells : AreCells (level ls 0)
  pub tower : IsTower (level ls 0) ls
  pub held : HasRoom room ls
  pub fits : length (level ls 0) ≤ room

-- ---- costs

abbrev pub cost_of : Option Key → Option ℕ
cost_of None = None
cost_of (Some k) = Some k.0

abbrev pub best_cost : Option Best → Option ℕ
best_cost None = None
best_cost (Some e) = Some e.cost
