-- Levels under which the cells have got a new end.
use Rattle.std.specs.Prelude.{◌≡◌, ℕ, ◌<◌, ◌≤◌, List, [], ◌∷◌, length}
use Rattle.rhythm_base.specs.Ranked.{CarryMatrix}
use Rattle.chain_bars.specs.Tower.{Level, AreCells, HasRoom, level, level_of}

-- each of fs but its last is the one of es at its place
abbrev pub IsEnding : List CarryMatrix → List CarryMatrix → Type 0
IsEnding es [] = ⊥
IsEnding es (y ∷ []) = Unit {0}
IsEnding [] (y ∷ z ∷ fs) = ⊥
IsEnding (x ∷ es) (y ∷ z ∷ fs) = (x ≡ y) × IsEnding es (z ∷ fs)

-- the lowest level has the cells, and those above it are over cells that differ at the end
pub record HasNewEnd (ls : List Level) : Type 0 where
  pub cells : AreCells (level ls 0)
  pub count : length ls ≡ 13
  pub before : List CarryMatrix
  pub above : (k : ℕ) → 1 ≤ k → k < 13 → level ls k ≡ level_of before k
  pub ending : IsEnding before (level ls 0)
  pub room : HasRoom (length (level ls 0)) ls
