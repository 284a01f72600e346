-- Forests: trees side by side in a bar, from a unit on, and their keys for each number of chords carried in and out.
use Rattle.std.specs.Prelude.{⊤, ◌≡◌, ℕ, ◌+◌, ◌<◌, ◌≤◌, Bool, true, List, [], ◌∷◌, Option, Some, None}
use Rattle.rhythm_base.specs.Cost.{charges, weights}
use Rattle.rhythm_base.specs.Forest.{Forest, preorder}
use Rattle.rhythm_base.specs.Leaves.{VoiceBar, in_bar}
use Rattle.rhythm_base.specs.declared.inner.Inner.{Inner}
use Rattle.rhythm_base.specs.Line.{Rising}
use Rattle.rhythm_base.specs.Shape.{Shape, end, part}
use Rattle.rhythm_base.specs.Ranked.{Key, Keys}
use Rattle.rhythm_base.specs.Grammar.{Grammar}
use Rattle.rhythm_base.specs.Trees.{are_shaped, are_trees, leaves}
use Rattle.tree_laws.specs.Places.{FitsAt}
use Rattle.path_laws.specs.Tables.{IsLeastKey}

-- widths are above 0
abbrev pub AreWide : List (ℕ × ℕ) → Type 0
AreWide [] = ⊤
AreWide (q ∷ qs) = (1 ≤ q.0) × AreWide qs

-- where forests stand: a grammar, a bar with its chords, and the end of the chord before the bar
pub record Ground : Type 0 where
  pub book : Grammar
  pub bar : VoiceBar
  pub chords : List Inner
  pub before : ℕ

pub record IsGround (d : Ground) : Type 0 where
  pub long : 1 ≤ d.bar.length
  pub rise : Rising d.bar.start d.chords

-- the shapes that pins demand of trees side by side, where they do
abbrev pub has_shapes : Option Shape → Forest → Bool
has_shapes None f = true
has_shapes (Some shapes) f = are_shaped shapes f

-- the shape of one tree as the shapes of a forest
abbrev pub one_shape : Option Shape → Option Shape
one_shape None = None
one_shape (Some x) = Some (part x end)

-- the shapes of the first tree alone, and those of the trees after it
abbrev pub first_shape : Option Shape → Option Shape
first_shape None = None
first_shape (Some end) = Some end
first_shape (Some (part x xs)) = Some (part x end)

abbrev pub other_shapes : Option Shape → Option Shape
other_shapes None = None
other_shapes (Some end) = Some end
other_shapes (Some (part x xs)) = Some xs

-- the rules of a forest, and the onsets in its leaves
abbrev pub forest_cost : Ground → ℕ → List (ℕ × ℕ) → Forest → ℕ
forest_cost d p qs f = weights d.book (preorder f) + charges d.book (in_bar d.bar (leaves d.book.rules p qs f)) d.chords

-- one tree for each width and symbol, of the shapes, from unit p on, that fit with the counts `from` and `to`
pub record StandsInBar (d : Ground) (shapes : Option Shape) (p : ℕ) (qs : List (ℕ × ℕ)) (f : Forest) (from to : ℕ) : Type 0 where
  pub trees : are_trees d.book.rules qs f ≡ true
  pub shaped : has_shapes shapes f ≡ true
  pub fits : FitsAt d.book.resolution d.bar d.chords d.before p (leaves d.book.rules p qs f) from to

-- the cost and the rule list of such a forest
abbrev pub IsForestKey : Ground → Option Shape → ℕ → List (ℕ × ℕ) → ℕ → ℕ → Key → Type 0
IsForestKey d shapes p qs from to k = (f : Forest) × StandsInBar d shapes p qs f from to × (k ≡ (forest_cost d p qs f, preorder f))

-- the least key for each number of chords carried in and out
abbrev pub AreLeast : Ground → Option Shape → ℕ → List (ℕ × ℕ) → Keys → Type 0
AreLeast d shapes p qs keys = (a b : ℕ) → a < 5 → b < 5 → IsLeastKey (IsForestKey d shapes p qs a b) (keys a b)
