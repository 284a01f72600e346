-- The laws, each as one statement over the definitions.
use Rattle.std.specs.Prelude.{◌≡◌, ℕ, ◌+◌, ◌*◌, ◌≤◌, ◌<◌, ◌↔◌, true, List, [], ◌∷◌, ◌++◌, filter, length, Option, IsTrue}
use Rattle.rhythm_base.specs.declared.limits.TheConstants.{DEAREST_CELL}
use Rattle.rhythm_base.specs.declared.rule.Rule.{Rule}
use Rattle.tree_laws.specs.Alternatives.{AreAlternatives}
use Rattle.rhythm_base.specs.BarInput.{BarInput}
use Rattle.rhythm_base.specs.Lists.{last_end}
use Rattle.rhythm_base.specs.Cells.{CellFits}
use Rattle.rhythm_base.specs.BarTables.{BarTable, IsTable, list_at}
use Rattle.rhythm_base.specs.Cost.{cost, sequence_of, weights}
use Rattle.rhythm_base.specs.DeadBars.{IsDead, end_of_bars}
use Rattle.rhythm_base.specs.Forest.{Tree, none, more, preorder_of, Forest}
use Rattle.rhythm_base.specs.Leaves.{FitsVoice, VoiceBar, are_bars, in_bar, lies_in, voice_leaves, looks}
use Rattle.rhythm_base.specs.Least.{IsLeast}
use Rattle.rhythm_base.specs.declared.inner.Inner.{Inner}
use Rattle.rhythm_base.specs.Line.{agree, past, seat}
use Rattle.rhythm_base.specs.Shape.{Shape}
use Rattle.rhythm_base.specs.Paths.{IsCheap}
use Rattle.rhythm_base.specs.Ranked.{Key, Keys, product_of, table, table_of, times}
use Rattle.rhythm_base.specs.Grammar.{Grammar}
use Rattle.rhythm_base.specs.Bodies.{sizes}
use Rattle.rhythm_base.specs.Trees.{are_trees, is_tree, leaves, leaves_of, are_shaped, shape_of}
use Rattle.rhythm_base.specs.Readable.{IsReadable}
use Rattle.rhythm_base.specs.Shapes.{is_shape}
use Rattle.tree_laws.specs.Forests.{AreLeast, AreWide, Ground, IsForestKey, IsGround, first_shape, other_shapes}
use Rattle.tree_laws.specs.Passes.{HasPass}
use Rattle.tree_laws.specs.Quiet.{SoundAlike}
use Rattle.tree_laws.specs.VersionOne.{are_equal_trees, displaced, equal_leaves}
use Rattle.tree_laws.specs.Voices.{Adjacent, AreCounts, HoldsChords, IsVoice, cell_costs}

-- A derivation of a voice fits exactly where there are counts at the barlines, 0 at both ends, with which each tree fits its
-- bar; its cost is then the sum of the costs of the bars.
pub record BarsAreLocal : Type 0 where
  pub counts : (g : Grammar) (bars : List VoiceBar) (cs : List Inner) (ts : List Tree) → IsVoice g bars cs
      → FitsVoice g bars cs ts ↔ ((ms : List ℕ) × AreCounts g cs bars ts (0 ∷ ms) × (last_end 0 ms ≡ 0))
  pub costs : (g : Grammar) (bars : List VoiceBar) (cs : List Inner) (ts : List Tree) → IsVoice g bars cs
      → FitsVoice g bars cs ts → cost g bars cs ts ≡ cell_costs g cs bars ts

-- in a voice without gaps every onset before its end lies in exactly one leaf, and a later onset is attached to no earlier one
pub record OnsetsAreAttached : Type 0 where
  pub one_leaf : (g : Grammar) (bars : List VoiceBar) (ts : List Tree) (t : ℕ) → 1 ≤ g.resolution → Adjacent 0 bars (end_of_bars 0 bars) → are_bars g bars ts ≡ true
      → t < end_of_bars 0 bars → length (filter (λ x. lies_in g.resolution x t) (voice_leaves g bars ts)) ≡ 1
  pub in_order : (g : Grammar) (bars : List VoiceBar) (ts : List Tree) (t u : ℕ) → 1 ≤ g.resolution → Adjacent 0 bars (end_of_bars 0 bars) → are_bars g bars ts ≡ true
      → t ≤ u → seat (looks g.resolution) (voice_leaves g bars ts) t ≤ seat (looks g.resolution) (voice_leaves g bars ts) u

-- a tree fits a cell with at most one pair of counts
abbrev pub CountsAreOne : Type 0
CountsAreOne =
    (g : Grammar) (k : BarInput) (t : Tree) (from to from' to' : ℕ) → 1 ≤ k.resolution → HoldsChords k
    → CellFits g k t from to → CellFits g k t from' to' → (from ≡ from') × (to ≡ to')

-- a rule list decides its tree: those of two trees, of any symbols over intervals of any widths, are not beginnings of one
-- another, unless the trees are the same
abbrev pub ListsAreNoPrefixes : Type 0
ListsAreNoPrefixes =
    (rules : List Rule) (q p : ℕ × ℕ) (t u : Tree) (rest : List ℕ) → are_trees rules (q ∷ []) (more t.rule t.kids none) ≡ true
    → are_trees rules (p ∷ []) (more u.rule u.kids none) ≡ true → preorder_of t ++ rest ≡ preorder_of u → (t ≡ u) × (rest ≡ [])

-- the dead bar is the first over whose cells no counts lead: from 0, at most four, and to 0 over the last bar
abbrev pub DeadBarsAreByCounts : Type 0
DeadBarsAreByCounts =
    (g : Grammar) (bars : List VoiceBar) (cs : List Inner) (i : ℕ) → IsVoice g bars cs
    → IsDead g bars cs i ↔ ((i < length bars) × (HasPass g bars cs i → ⊥) × ((j : ℕ) → j < i → HasPass g bars cs j))

-- with one weight for early and late onsets, a derivation costs what it did before they were weighed apart: its rules'
-- weights and that weight times all displacements
abbrev pub OneWeightIsAsBefore : Type 0
OneWeightIsAsBefore =
    (g : Grammar) (bars : List VoiceBar) (cs : List Inner) (ts : List Tree) (onset : ℕ) → g.early ≡ onset → g.late ≡ onset
    → cost g bars cs ts ≡ weights g (sequence_of ts) + onset * displaced g.resolution (voice_leaves g bars ts) cs

-- A grammar of version 1 has the trees that it had before cuts could be unequal, with the same leaves.
pub record EqualCutsAreAsBefore : Type 0 where
  pub trees : (g : Grammar) (qs : List (ℕ × ℕ)) (f : Forest) → IsReadable g → g.version ≡ 1 → are_trees g.rules qs f ≡ are_equal_trees g.rules qs f
  pub leaves : (g : Grammar) (p : ℕ) (qs : List (ℕ × ℕ)) (f : Forest) → IsReadable g → g.version ≡ 1 → leaves g.rules p qs f ≡ equal_leaves g.rules p qs f

-- The least of trees side by side, for each number of chords carried in and out, are the least of the first tree and of the
-- others, with the count between them that gives the least; and their costs and ranks are the product of those of the first
-- and of the others. So rule lists are never compared: the ranks of one row stand for them.
pub record LeastForestsAreOfTheLeast : Type 0 where
  pub least : (d : Ground) (p : ℕ) (q : ℕ × ℕ) (qs : List (ℕ × ℕ)) (s : Option Shape) (first others : Keys) → IsGround d → AreWide (q ∷ qs)
      → AreLeast d (first_shape s) p (q ∷ []) first → AreLeast d (other_shapes s) (p + q.0) qs others → AreLeast d s p (q ∷ qs) (times first others)
  pub tables : (d : Ground) (p : ℕ) (q : ℕ × ℕ) (s : Option Shape) (first others : Keys)
      → AreLeast d (first_shape s) p (q ∷ []) first → table_of (times first others) ≡ product_of (table_of first) (table_of others)

-- Over two intervals of one width in which no chord begins, and which both sound throughout or are both silent throughout,
-- the same forests fit with the same numbers of chords carried in and out, and they cost the same.
abbrev pub QuietIntervalsAreAlike : Type 0
QuietIntervalsAreAlike =
    (d : Ground) (s : Option Shape) (qs : List (ℕ × ℕ)) (p q from to : ℕ) (key : Key) → IsGround d → AreWide qs → SoundAlike d (sizes qs) p q
    → IsForestKey d s p qs from to key ↔ IsForestKey d s q qs from to key

-- a tree whose leaves agree within its bar, with no chord attached past them, is a derivation of the voice of that one bar
abbrev pub OneBarIsAVoice : Type 0
OneBarIsAVoice =
    (g : Grammar) (bar : VoiceBar) (cs : List Inner) (t : Tree) → is_tree g.rules g.resolution bar.symbol bar.pin t ≡ true
    → agree (looks g.resolution) [] [] cs (in_bar bar (leaves_of g.rules g.resolution bar.symbol t)) ≡ true
    → past (looks g.resolution) [] cs (in_bar bar (leaves_of g.rules g.resolution bar.symbol t)) ≡ 0
    → FitsVoice g (bar ∷ []) cs (t ∷ [])

-- a pin asks of the parts of a tree exactly the shape that they have
abbrev pub ShapesAreOne : Type 0
ShapesAreOne = (s : Shape) (f : Forest) → (are_shaped s f ≡ true) ↔ (s ≡ shape_of f)

-- a tree of a readable grammar over a whole bar has a shape that an edit script can say: each cut has 2 to 16 parts, and there
-- are at most 96 levels
abbrev pub TreesHaveShapes : Type 0
TreesHaveShapes =
    (g : Grammar) (symbol : ℕ) (pin : Option Shape) (t : Tree) → IsReadable g → is_tree g.rules g.resolution symbol pin t ≡ true
    → IsTrue (is_shape (shape_of t.kids))

-- no entry of the table of a cell is dearer than the dearest cell, so that sums over a chain of tables do not overflow
abbrev pub TablesAreCheap : Type 0
TablesAreCheap = (g : Grammar) (table : BarTable) → IsTable g table → IsCheap DEAREST_CELL table.matrix

-- What is asked of trees has one answer: the least derivation of a voice, where there is one, the table of a cell, and the
-- alternatives of a bar.
pub record TreesHaveOneAnswer : Type 0 where
  pub least : (g : Grammar) (bars : List VoiceBar) (cs : List Inner) (ts us : List Tree)
      → IsLeast g bars cs ts → IsLeast g bars cs us → ts ≡ us
  pub tables : (g : Grammar) (v w : BarTable) → IsTable g v → IsTable g w → v.input ≡ w.input
      → (v.matrix ≡ w.matrix) × ((from to : ℕ) → from < 5 → to < 5 → list_at v from to ≡ list_at w from to)
  pub alternatives : (g : Grammar) (bars : List VoiceBar) (cs : List Inner) (i count : ℕ) (xs ys : List (ℕ × Tree))
      → AreAlternatives g bars cs i count xs → AreAlternatives g bars cs i count ys → xs ≡ ys
