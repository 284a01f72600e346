-- The keys of trees by the rule on top.
use Rattle.std.specs.Prelude.{◌≡◌, ℕ, true, [], ◌∷◌, slice_get, Option, Some, None}
use Rattle.rhythm_base.specs.Bodies.{ending_of}
use Rattle.rhythm_base.specs.Grammar.{Grammar}
use Rattle.rhythm_base.specs.Trees.{suits}
use Rattle.rhythm_base.specs.declared.rule.Rule.{Rule}
use Rattle.rhythm_base.specs.Forest.{Forest, none, more, preorder}
use Rattle.rhythm_base.specs.Shape.{Shape}
use Rattle.rhythm_base.specs.Ranked.{Key}
use Rattle.tree_laws.specs.Forests.{Ground, StandsInBar, forest_cost, one_shape}

-- the key of a tree with the rule r on top
abbrev pub IsRuleKey : Ground → Option Shape → ℕ → ℕ × ℕ → ℕ → ℕ → ℕ → Key → Type 0
IsRuleKey d pin p q r a b k = (f : Forest) × StandsInBar d (one_shape pin) p (q ∷ []) (more r f none) a b × (k ≡ (forest_cost d p (q ∷ []) (more r f none), preorder (more r f none)))

-- the rule of this number cuts an interval of the width for the symbol
pub record IsCutRule (g : Grammar) (q : ℕ × ℕ) (r : ℕ) (rule : Rule) : Type 0 where
  pub at : slice_get g.rules r ≡ Some rule
  pub suit : suits (Some rule) q ≡ true
  pub cuts : ending_of rule.body ≡ None
