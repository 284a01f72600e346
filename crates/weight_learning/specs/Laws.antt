-- What learned weights come to.
use Rattle.rhythm_base.specs.Cost.{weight_of}
use Rattle.rhythm_base.specs.Grammar.{Grammar}
use Rattle.rhythm_base.specs.Leaves.{FitsVoice, VoiceBar}
use Rattle.rhythm_base.specs.Forest.{Tree}
use Rattle.rhythm_base.specs.Performance.{Performance}
use Rattle.rhythm_base.specs.Readable.{IsReadable}
use Rattle.rhythm_base.specs.Voices.{HasDerivation, HasStarts}
use Rattle.rhythm_base.specs.declared.inner.Inner.{Inner}
use Rattle.rhythm_base.specs.declared.note.Bar.{Bar}
use Rattle.std.specs.Prelude.{◌≡◌, ◌↔◌, ℕ, ◌^◌, ◌≤◌, ◌<◌, List, Option, length, option_map, slice_get, slice_index}
use Rattle.weight_learning.specs.Learned.{CanLearn, learned, unweighted}
use Rattle.weight_learning.specs.Steps.{IsLogarithm, steps}
use Rattle.weight_learning.specs.Thresholds.{IsThreshold, threshold}
use Rattle.weight_learning.specs.declared.weights.TheConstants.{HEAVIEST_LEARNED}

-- ---- logarithms

-- `steps` gives the greatest number of its property
abbrev pub StepsAreGreatest : Type 0
StepsAreGreatest = (n : ℕ) → 1 ≤ n → n < 2 ^ 40 → IsLogarithm n (steps n)

-- and each threshold of the table is the least of its property
abbrev pub ThresholdsAreLeast : Type 0
ThresholdsAreLeast = (j : ℕ) → j < 64 → IsThreshold j (threshold j)

-- ---- weights

-- the symbol of a rule, by its number, and its weight
abbrev pub symbol_at : Grammar → ℕ → Option ℕ
symbol_at g i = option_map (λ r. r.lhs) (slice_get g.rules i)

abbrev pub weight_at : Grammar → ℕ → ℕ
weight_at g i = weight_of (slice_get g.rules i)

-- two rules of one symbol, by their numbers
pub record AreOfOneSymbol (g : Grammar) (i j : ℕ) : Type 0 where
  pub one : i < length g.rules
  pub other : j < length g.rules
  pub symbol : symbol_at g i ≡ symbol_at g j

-- the grammar is the same but for its weights, and can be read where it could before
pub record OnlyWeightsAreLearned : Type 0 where
  pub same : (g : Grammar) (counts : List ℕ) (bit : ℕ) → CanLearn g counts bit → unweighted (learned g counts bit) ≡ unweighted g
  pub readable : (g : Grammar) (counts : List ℕ) (bit : ℕ) → CanLearn g counts bit → IsReadable g → IsReadable (learned g counts bit)

-- the weights of a symbol of which a rule is used are few
abbrev pub LearnedWeightsAreFew : Type 0
LearnedWeightsAreFew =
    (g : Grammar) (counts : List ℕ) (bit i j : ℕ) → CanLearn g counts bit → AreOfOneSymbol g i j → 1 ≤ slice_index counts j
    → weight_at (learned g counts bit) i ≤ HEAVIEST_LEARNED

-- of two rules of a symbol the one that is used no less and was no heavier is no heavier afterwards
abbrev pub MoreUsedIsNoHeavier : Type 0
MoreUsedIsNoHeavier =
    (g : Grammar) (counts : List ℕ) (bit i j : ℕ) → CanLearn g counts bit → AreOfOneSymbol g i j
    → slice_index counts j ≤ slice_index counts i → weight_at g i ≤ weight_at g j
    → weight_at (learned g counts bit) i ≤ weight_at (learned g counts bit) j

-- a rule that is used and alone in its symbol weighs nothing
abbrev pub LoneRulesWeighNothing : Type 0
LoneRulesWeighNothing =
    (g : Grammar) (counts : List ℕ) (bit i : ℕ) → CanLearn g counts bit → i < length g.rules
    → ((j : ℕ) → AreOfOneSymbol g j i → j ≡ i) → 1 ≤ slice_index counts i → weight_at (learned g counts bit) i ≡ 0

-- where no rule of its symbol is used, a rule weighs what it weighed
abbrev pub UnusedSymbolsKeepTheirWeights : Type 0
UnusedSymbolsKeepTheirWeights =
    (g : Grammar) (counts : List ℕ) (bit i : ℕ) → CanLearn g counts bit → i < length g.rules
    → ((j : ℕ) → AreOfOneSymbol g j i → slice_index counts j ≡ 0) → weight_at (learned g counts bit) i ≡ weight_at g i

-- ---- derivations

-- the same trees fit
pub record HaveTheSameDerivations (g h : Grammar) : Type 0 where
  pub fits : (bars : List VoiceBar) (cs : List Inner) (ts : List Tree) → FitsVoice g bars cs ts ↔ FitsVoice h bars cs ts
  pub starts : (bars : List Bar) → HasStarts g bars ↔ HasStarts h bars
  pub voices : (p : Performance) (channel : ℕ) → HasDerivation g p channel ↔ HasDerivation h p channel

-- grammars that are the same but for their weights have the same derivations
abbrev pub WeightsDecideNoDerivation : Type 0
WeightsDecideNoDerivation = (g h : Grammar) → unweighted g ≡ unweighted h → HaveTheSameDerivations g h
