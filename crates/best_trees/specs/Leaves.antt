-- The leaf over an interval, and when it is offered.
use Rattle.std.specs.Prelude.{ℕ, ◌+◌, ◌&&◌, ◌==◌, ◌<◌, ◌≤◌, ◌^◌, Bool, List, [], ◌∷◌}
use Rattle.rhythm_base.specs.Line.{agrees}
use Rattle.rhythm_base.specs.Ranked.{Key}
use Rattle.rhythm_base.specs.declared.rule.Ending.{Ending}
use Rattle.bar_view.specs.declared.leaf.Leaf.{Leaf}
use Rattle.best_trees.specs.Grids.{HasOffered}

-- no more than four chords are attached to it or to the next, and what its onsets cost can be added
pub record IsSmallLeaf (l : Leaf) : Type 0 where
  pub own : l.own ≤ 4
  pub next : l.next ≤ 4
  pub charges : l.charges < 2 ^ 60

-- a leaf that ends so fits with these counts
abbrev pub is_leaf_at : Ending → Leaf → ℕ → ℕ → Bool
is_leaf_at ending l a b = agrees ending (a + l.own) l.sounds && (l.next == b)

-- with the rule of this number, which ends it so and weighs so much, it was offered to the lists of all counts with which it fits
abbrev pub HasLeafOffered : ℕ → Ending → Leaf → ℕ → ℕ → List (List Key) → List (List Key) → Type 0
HasLeafOffered count ending l weight number old new = HasOffered count (is_leaf_at ending l) (weight + l.charges, number ∷ []) old new
