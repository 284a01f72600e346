-- The rules that end an interval as a leaf.
use Rattle.std.specs.Prelude.{◌≡◌, ℕ, ◌<◌, ◌≤◌, ◌⊎◌, Bool, true, slice_get, Some}
use Rattle.rhythm_base.specs.Bodies.{ending_of}
use Rattle.rhythm_base.specs.Grammar.{Grammar}
use Rattle.rhythm_base.specs.Line.{agrees}
use Rattle.rhythm_base.specs.declared.rule.Ending.{Ending}
use Rattle.rhythm_base.specs.declared.rule.Rule.{Rule}

-- the rule of the number r is one of the symbol, and ends a leaf to which n chords are attached and in which the latest chord
-- sounds or not
pub record IsLeafRule (g : Grammar) (symbol n : ℕ) (sounds : Bool) (r : ℕ) (rule : Rule) : Type 0 where
  pub at : slice_get g.rules r ≡ Some rule
  pub own : rule.lhs ≡ symbol
  pub ending : Ending
  pub ends : ending_of rule.body ≡ Some ending
  pub agree : agrees ending n sounds ≡ true

-- the rule that such a leaf is ended with: the first of those with the least weight
pub record IsFirstLeafRule (g : Grammar) (symbol n : ℕ) (sounds : Bool) (r weight : ℕ) : Type 0 where
  pub rule : Rule
  pub is : IsLeafRule g symbol n sounds r rule
  pub weighs : rule.weight ≡ weight
  pub first : (s : ℕ) (other : Rule) → IsLeafRule g symbol n sounds s other → (weight < other.weight) ⊎ ((weight ≡ other.weight) × (r ≤ s))

abbrev pub HasNoLeafRule : Grammar → ℕ → ℕ → Bool → Type 0
HasNoLeafRule g symbol n sounds = (r : ℕ) (rule : Rule) → IsLeafRule g symbol n sounds r rule → ⊥

-- the rule of this number ends its interval
abbrev pub EndsInterval : Grammar → ℕ → Type 0
EndsInterval g r = (rule : Rule) × (ending : Ending) × (slice_get g.rules r ≡ Some rule) × (ending_of rule.body ≡ Some ending)
