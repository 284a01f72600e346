-- A voice bar by bar: counts at the barlines with which each tree fits its cell.
use Rattle.std.specs.Prelude.{⊤, ◌≡◌, ℕ, ◌+◌, ◌≤◌, true, nat_lt, List, [], ◌∷◌}
use Rattle.std.specs.List.{list_all}
use Rattle.rhythm_base.specs.BarInput.{BarInput}
use Rattle.rhythm_base.specs.Cells.{CellFits, cell_cost, input}
use Rattle.rhythm_base.specs.DeadBars.{end_of_bars}
use Rattle.rhythm_base.specs.Forest.{Tree}
use Rattle.rhythm_base.specs.Leaves.{VoiceBar}
use Rattle.rhythm_base.specs.declared.inner.Inner.{Inner}
use Rattle.rhythm_base.specs.Line.{Rising}
use Rattle.rhythm_base.specs.Grammar.{Grammar}

-- a bar has a length, and its chords rise and lie in it
pub record HoldsChords (k : BarInput) : Type 0 where
  pub long : 1 ≤ k.length
  pub rise : Rising 0 k.chords
  pub below : list_all (λ c. nat_lt c.onset k.length) k.chords ≡ true

-- there are counts at the barlines, from f to `to`, with which the trees fit the cells
abbrev pub CellsFit : Grammar → List Inner → List VoiceBar → List Tree → ℕ → ℕ → Type 0
CellsFit g cs [] [] f to = f ≡ to
CellsFit g cs [] (t ∷ ts) f to = ⊥
CellsFit g cs (bar ∷ bars) [] f to = ⊥
CellsFit g cs (bar ∷ bars) (t ∷ ts) f to = (m : ℕ) × CellFits g (input g bar cs) t f m × CellsFit g cs bars ts m to

-- the counts c_0, .., c_n at the barlines, with which the trees fit the cells
abbrev pub AreCounts : Grammar → List Inner → List VoiceBar → List Tree → List ℕ → Type 0
AreCounts g cs [] [] [] = ⊥
AreCounts g cs [] [] (c ∷ []) = ⊤
AreCounts g cs [] [] (c ∷ d ∷ ds) = ⊥
AreCounts g cs [] (t ∷ ts) ds = ⊥
AreCounts g cs (bar ∷ bars) [] ds = ⊥
AreCounts g cs (bar ∷ bars) (t ∷ ts) [] = ⊥
AreCounts g cs (bar ∷ bars) (t ∷ ts) (c ∷ []) = ⊥
AreCounts g cs (bar ∷ bars) (t ∷ ts) (c ∷ d ∷ ds) = CellFits g (input g bar cs) t c d × AreCounts g cs bars ts (d ∷ ds)

-- the bars stand side by side from the tick b to the tick e
abbrev pub Adjacent : ℕ → List VoiceBar → ℕ → Type 0
Adjacent b [] e = b ≡ e
Adjacent b (bar ∷ bars) e = (bar.start ≡ b) × (1 ≤ bar.length) × Adjacent (b + bar.length) bars e

-- the chords of a voice rise and lie in its bars, of which the first starts at 0
pub record IsVoice (g : Grammar) (bars : List VoiceBar) (cs : List Inner) : Type 0 where
  pub some : 1 ≤ g.resolution
  pub near : Adjacent 0 bars (end_of_bars 0 bars)
  pub rise : Rising 0 cs
  pub below : list_all (λ c. nat_lt c.onset (end_of_bars 0 bars)) cs ≡ true

-- the costs of the cells, added up
abbrev pub cell_costs : Grammar → List Inner → List VoiceBar → List Tree → ℕ
cell_costs g cs [] ts = 0
cell_costs g cs (bar ∷ bars) [] = 0
cell_costs g cs (bar ∷ bars) (t ∷ ts) = cell_cost g (input g bar cs) t + cell_costs g cs bars ts
