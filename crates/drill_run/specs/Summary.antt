-- The summary of a drill.
use Rattle.std.specs.Prelude.{◌≡◌, ℕ, ◌*◌, ◌≤◌, List, ◌++◌, length, codes, decimal}
use Rattle.kern_writer.specs.PerformanceText.{IsTextOf}
use Rattle.rhythm_base.specs.Grammar.{Grammar}
use Rattle.rhythm_base.specs.Voices.{IsCostOf}
use Rattle.rhythm_base.specs.declared.limits.TheConstants.{LONGEST_SCORE}
use Rattle.drill_run.specs.Drill.{Drilled}
use Rattle.drill_run.specs.declared.figures.Figures.{Figures}

-- a word, a space, a number and a newline
abbrev pub figure_line : List ℕ → ℕ → List ℕ
figure_line word number = word ++ (codes " " ++ (decimal number ++ codes "\n"))

abbrev pub summary_text : Figures → List ℕ
summary_text f =
    figure_line (codes "bars") f.bars
    ++ (figure_line (codes "cells") f.cells
    ++ (figure_line (codes "accepted") f.accepted
    ++ (figure_line (codes "built") f.built
    ++ (figure_line (codes "cost") f.cost
    ++ figure_line (codes "bytes") f.bytes))))

-- The numbers of bars and of cells, which no edit of a drill changes; how many edits were accepted, and how many cells these
-- reached; what the least derivations cost after the last edit; and the length of the score, where that is not too long
pub record AreFigures (g : Grammar) (last : Drilled) (f : Figures) : Type 0 where
  pub bars : f.bars ≡ length last.performance.bars
  pub cells : f.cells ≡ length last.performance.channels * length last.performance.bars
  pub accepted : f.accepted ≡ last.accepted
  pub built : f.built ≡ last.built
  pub cost : IsCostOf g last.performance f.cost
  pub score : List ℕ
  pub is_score : IsTextOf g last.performance score
  pub short : length score ≤ LONGEST_SCORE
  pub bytes : f.bytes ≡ length score

abbrev pub IsSummary : Grammar → Drilled → List ℕ → Type 0
IsSummary g last text = (f : Figures) × AreFigures g last f × (text ≡ summary_text f)
