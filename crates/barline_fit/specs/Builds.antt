-- How many cells are built while ticks are tried for a barline.
use Rattle.std.specs.Prelude.{◌≡◌, ℕ, ◌+◌, ◌≤◌, List, [], ◌∷◌, length}
use Rattle.rhythm_base.specs.Grammar.{Grammar}
use Rattle.rhythm_base.specs.Performance.{Performance}
use Rattle.edit_laws.specs.Reached.{WouldReach}
use Rattle.rhythm_base.specs.declared.edit.Edit.TheVariants.{Barline}

-- How many cells the barline reaches at all these ticks together. At a tick where the edit is refused for a voice without a derivation,
-- its cells are built and count; where the performance alone refuses it, it reaches none.
unfoldable pub AreReachedAt : Grammar → Performance → ℕ → List ℕ → ℕ → Type 0
AreReachedAt g p bar [] sum = sum ≡ 0
AreReachedAt g p bar (tick ∷ ticks) sum =
    (cells : List (ℕ × ℕ)) × (others : ℕ) × WouldReach g p (Barline bar tick) cells × AreReachedAt g p bar ticks others
    × (sum ≡ length cells + others)

-- no more than that
abbrev pub AreWithinReach : Grammar → Performance → ℕ → List ℕ → ℕ → Type 0
AreWithinReach g p bar ticks n = (sum : ℕ) → AreReachedAt g p bar ticks sum → n ≤ sum
