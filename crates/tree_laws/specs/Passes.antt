-- Counts that lead over the cells of a voice, with some tree for each.
use Rattle.std.specs.Prelude.{◌≡◌, ℕ, ◌+◌, ◌≤◌, List, [], ◌∷◌, length, take}
use Rattle.rhythm_base.specs.Cells.{CellFits, input}
use Rattle.rhythm_base.specs.Forest.{Tree}
use Rattle.rhythm_base.specs.Leaves.{VoiceBar}
use Rattle.rhythm_base.specs.declared.inner.Inner.{Inner}
use Rattle.rhythm_base.specs.Grammar.{Grammar}

-- counts from f to `to` at the barlines, with which some tree fits each cell
abbrev pub CanPass : Grammar → List Inner → List VoiceBar → ℕ → ℕ → Type 0
CanPass g cs [] f to = f ≡ to
CanPass g cs (bar ∷ bars) f to = (m : ℕ) × ((t : Tree) × CellFits g (input g bar cs) t f m) × CanPass g cs bars m to

-- counts lead over the cells 0 to i: from 0, at most four at the end, and 0 where i is the last bar
pub record HasPass (g : Grammar) (bars : List VoiceBar) (cs : List Inner) (i : ℕ) : Type 0 where
  pub to : ℕ
  pub passes : CanPass g cs (take (i + 1) bars) 0 to
  pub few : to ≤ 4
  pub none_last : i + 1 ≡ length bars → to ≡ 0
