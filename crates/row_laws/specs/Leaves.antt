-- A leaf of a cell, and what it asks of the cell's chords.
use Rattle.std.specs.Prelude.{◌≡◌, ℕ, ◌<◌, ◌≤◌, ◌⊎◌, Bool, List, [], ◌∷◌, length}
use Rattle.rhythm_base.specs.declared.rule.Ending.TheVariants.{Note}
use Rattle.rhythm_base.specs.BarInput.{BarInput}
use Rattle.rhythm_base.specs.Cells.{bar_of}
use Rattle.rhythm_base.specs.Cost.{charges}
use Rattle.rhythm_base.specs.Grammar.{Grammar}
use Rattle.rhythm_base.specs.Leaves.{Leaf, looks, sounds}
use Rattle.rhythm_base.specs.Lists.{last_end}
use Rattle.tree_laws.specs.Places.{end_before}
use Rattle.tree_laws.specs.Runs.{lefts, rights}

-- the leaf of w units from unit p on. Its rule makes no difference to its chords
abbrev pub leaf_of_cell : BarInput → ℕ → ℕ → Leaf
leaf_of_cell k p w = record { bar = bar_of k; part = record { ending = Note; place = p; width = w } }

-- the ends of the chords of the cell that are attached to the leaf, and of those that lie in it and are attached to the next
abbrev pub own_ends : BarInput → ℕ → ℕ → List ℕ
own_ends k p w = lefts (looks k.resolution) (leaf_of_cell k p w) k.chords

abbrev pub next_ends : BarInput → ℕ → ℕ → List ℕ
next_ends k p w = rights (looks k.resolution) (leaf_of_cell k p w) k.chords

-- so many chords are attached to the leaf and to the next, four at most, the latest chord sounds in the leaf or not (that
-- attached to it, or else the last one with its onset before it), and its onsets cost so much
pub record HasLeaf (g : Grammar) (k : BarInput) (p w own next : ℕ) (sounding : Bool) (cost : ℕ) : Type 0 where
  pub own_chords : own ≡ length (own_ends k p w)
  pub next_chords : next ≡ length (next_ends k p w)
  pub few_own : own ≤ 4
  pub few_next : next ≤ 4
  pub sounds : sounding ≡ sounds k.resolution (leaf_of_cell k p w) (last_end (end_before k.resolution (bar_of k) k.chords k.before p) (own_ends k p w))
  pub charged : cost ≡ charges g (leaf_of_cell k p w ∷ []) k.chords

-- more chords than any leaf takes are attached to it, or to the next
abbrev pub IsCrowded : BarInput → ℕ → ℕ → Type 0
IsCrowded k p w = (4 < length (own_ends k p w)) ⊎ (4 < length (next_ends k p w))
