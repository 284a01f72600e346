-- The laws of alternatives, each as one statement over the definitions.
use Rattle.std.specs.Prelude.{◌≡◌, ◌↔◌, ℕ, ◌+◌, List, drop, take, slice_get, Option, Some}
use Rattle.tree_laws.specs.Alternatives.{AreAlternatives, IsAlternative, without_pin_at}
use Rattle.rhythm_base.specs.BarInput.{BarInput}
use Rattle.rhythm_base.specs.BarTables.{BarTable}
use Rattle.rhythm_base.specs.Cells.{input}
use Rattle.rhythm_base.specs.Forest.{Tree}
use Rattle.rhythm_base.specs.Grammar.{Grammar}
use Rattle.rhythm_base.specs.Leaves.{VoiceBar}
use Rattle.rhythm_base.specs.Ranked.{five, least_key}
use Rattle.rhythm_base.specs.declared.inner.Inner.{Inner}
use Rattle.tree_laws.specs.Voices.{IsVoice}
use Rattle.chain_bars.specs.Laws.{AreTables, matrices}
use Rattle.chain_bars.specs.Tower.{cost_of}
use Rattle.bar_alternatives.specs.BestTrees.{AreBestTrees, IsLookedAt, unpinned}

-- the least costs of the cells before cell i, by the number of chords carried into it, and of those after it, by the number
-- carried out of it
abbrev pub costs_before : List BarTable → ℕ → List (Option ℕ)
costs_before tables i = five (λ to. cost_of (least_key (take i (matrices tables)) 0 to))

abbrev pub costs_after : List BarTable → ℕ → List (Option ℕ)
costs_after tables i = five (λ from. cost_of (least_key (drop (i + 1) (matrices tables)) from 0))

-- The total of a tree of a bar, between the least costs of the cells round it, is the least cost of a derivation of the voice
-- that has the tree there, the bar's pin lifted and the others kept.
abbrev pub TotalsAreLeast : Type 0
TotalsAreLeast =
    (g : Grammar) (bars : List VoiceBar) (cs : List Inner) (tables : List BarTable) (i : ℕ) (bar : VoiceBar) (a : ℕ × Tree)
    → IsVoice g bars cs → AreTables g cs bars tables → slice_get bars i ≡ Some bar
    → IsLookedAt g (unpinned (input g bar cs)) (costs_before tables i) (costs_after tables i) a ↔ IsAlternative g (without_pin_at i bars) cs i a

-- so the best trees of the bar between these costs are the alternatives of the bar of the voice
abbrev pub BestTreesAreAlternatives : Type 0
BestTreesAreAlternatives =
    (g : Grammar) (bars : List VoiceBar) (cs : List Inner) (tables : List BarTable) (i count : ℕ) (bar : VoiceBar) (list : List (ℕ × Tree))
    → IsVoice g bars cs → AreTables g cs bars tables → slice_get bars i ≡ Some bar
    → AreBestTrees g (unpinned (input g bar cs)) (costs_before tables i) (costs_after tables i) count list → AreAlternatives g bars cs i count list

-- the best trees of a bar between given costs are one list
abbrev pub BestTreesAreOne : Type 0
BestTreesAreOne =
    (g : Grammar) (k : BarInput) (before after : List (Option ℕ)) (count : ℕ) (xs ys : List (ℕ × Tree))
    → AreBestTrees g k before after count xs → AreBestTrees g k before after count ys → xs ≡ ys
