-- The chain over the tables of a voice gives the least derivation of the voice.
use Rattle.std.specs.Prelude.{⊤, ◌≡◌, ◌↔◌, ℕ, true, List, [], ◌∷◌, map, Some, None}
use Rattle.rhythm_base.specs.BarTables.{BarTable, IsTable, list_at}
use Rattle.rhythm_base.specs.Cells.{input}
use Rattle.rhythm_base.specs.Cost.{cost}
use Rattle.rhythm_base.specs.DeadBars.{IsDead}
use Rattle.rhythm_base.specs.Forest.{Tree, preorder_of}
use Rattle.rhythm_base.specs.Leaves.{VoiceBar}
use Rattle.rhythm_base.specs.Least.{HasNone, IsLeast}
use Rattle.rhythm_base.specs.declared.inner.Inner.{Inner}
use Rattle.rhythm_base.specs.Paths.{IsDeadCell, IsLeastPath, IsPathKey}
use Rattle.rhythm_base.specs.Ranked.{CarryMatrix, Key, least_key}
use Rattle.rhythm_base.specs.Grammar.{Grammar}
use Rattle.rhythm_base.specs.Trees.{is_tree}
use Rattle.path_laws.specs.Tables.{IsLeastKey}
use Rattle.tree_laws.specs.Voices.{IsVoice}

-- one table for each bar: that of the bar's cell
abbrev pub AreTables : Grammar → List Inner → List VoiceBar → List BarTable → Type 0
AreTables g cs [] [] = ⊤
AreTables g cs [] (x ∷ tables) = ⊥
AreTables g cs (bar ∷ bars) [] = ⊥
AreTables g cs (bar ∷ bars) (x ∷ tables) = IsTable g x × (x.input ≡ input g bar cs) × AreTables g cs bars tables

abbrev pub matrices : List BarTable → List CarryMatrix
matrices tables = map (λ x. x.matrix) tables

-- each bar's tree is that whose rule list stands in its table at the counts a and m round the bar
abbrev pub ArePicked : Grammar → List BarTable → ℕ → List ℕ → List Tree → Type 0
ArePicked g [] a [] [] = ⊤
ArePicked g [] a [] (t ∷ ts) = ⊥
ArePicked g [] a (m ∷ p) ts = ⊥
ArePicked g (x ∷ tables) a [] ts = ⊥
ArePicked g (x ∷ tables) a (m ∷ p) [] = ⊥
ArePicked g (x ∷ tables) a (m ∷ p) (t ∷ ts) =
    (is_tree g.rules x.input.resolution x.input.symbol x.input.pin t ≡ true) × (list_at x a m ≡ Some (preorder_of t)) × ArePicked g tables m p ts

-- the least path with each bar's least tree is the least derivation, and costs the same
abbrev pub PathsAreDerivations : Type 0
PathsAreDerivations =
    (g : Grammar) (bars : List VoiceBar) (cs : List Inner) (tables : List BarTable) (p : List ℕ) (k : Key) (ts : List Tree) → IsVoice g bars cs → AreTables g cs bars tables
    → IsLeastPath (matrices tables) 0 0 p k → ArePicked g tables 0 p ts → IsLeast g bars cs ts × (cost g bars cs ts ≡ k.0)

-- where there is a path, some derivation is the least, and costs what the least path does
abbrev pub PathsGiveDerivations : Type 0
PathsGiveDerivations =
    (g : Grammar) (bars : List VoiceBar) (cs : List Inner) (tables : List BarTable) (k : Key) → IsVoice g bars cs → AreTables g cs bars tables
    → least_key (matrices tables) 0 0 ≡ Some k → (ts : List Tree) × IsLeast g bars cs ts × (cost g bars cs ts ≡ k.0)

-- there is no path exactly where no derivation fits
abbrev pub NoPathIsNoDerivation : Type 0
NoPathIsNoDerivation =
    (g : Grammar) (bars : List VoiceBar) (cs : List Inner) (tables : List BarTable) → IsVoice g bars cs → AreTables g cs bars tables
    → (least_key (matrices tables) 0 0 ≡ None) ↔ HasNone g bars cs

-- the dead cell is the dead bar
abbrev pub DeadCellsAreDeadBars : Type 0
DeadCellsAreDeadBars =
    (g : Grammar) (bars : List VoiceBar) (cs : List Inner) (tables : List BarTable) (i : ℕ) → IsVoice g bars cs → AreTables g cs bars tables
    → IsDeadCell (matrices tables) i ↔ IsDead g bars cs i

-- `least_key` is the least key of all paths, and none where there is no path
abbrev pub KeysAreLeast : Type 0
KeysAreLeast = (es : List CarryMatrix) (a b : ℕ) → IsLeastKey (IsPathKey es a b) (least_key es a b)
