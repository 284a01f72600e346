-- The tree that a rule list tells: a tree of a symbol over the whole bar, whose rules in preorder are the list.
use Rattle.std.specs.Prelude.{◌≡◌, ℕ, true, List, [], ◌∷◌, ◌++◌, length, slice_get}
use Rattle.rhythm_base.specs.declared.rule.Rule.{Rule}
use Rattle.rhythm_base.specs.Forest.{Tree, Forest, none, more, preorder, preorder_of}
use Rattle.rhythm_base.specs.Grammar.{Grammar}
use Rattle.rhythm_base.specs.Trees.{are_trees, children_of}

abbrev pub IsTold : Grammar → ℕ → List ℕ → Tree → Type 0
IsTold g symbol rules t = (are_trees g.rules ((g.resolution, symbol) ∷ []) (more t.rule t.kids none) ≡ true) × (preorder_of t ≡ rules)

abbrev pub IsRuleList : Grammar → ℕ → List ℕ → Type 0
IsRuleList g symbol rules = (t : Tree) × IsTold g symbol rules t

-- a rule with this number has so many parts, whatever the width that it cuts
abbrev pub HasPartsOf : List Rule → ℕ → ℕ → Type 0
HasPartsOf rules r count = (w : ℕ) → count ≡ length (children_of (slice_get rules r) w)

-- these are the trees, so many, whose rules the list begins with, and what stands after them, if it begins with those of any
abbrev pub AreFirst : List Rule → ℕ → List ℕ → Forest → List ℕ → Type 0
AreFirst rules count list f rest =
    (qs : List (ℕ × ℕ)) (g : Forest) (xs : List ℕ) → length qs ≡ count → are_trees rules qs g ≡ true → preorder g ++ xs ≡ list
    → (f ≡ g) × (rest ≡ xs)
