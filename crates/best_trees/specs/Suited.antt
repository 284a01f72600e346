-- The rules that suit a width and a symbol.
use Rattle.std.specs.Prelude.{◌≡◌, ℕ, ◌+◌, ◌<◌, ◌≤◌, true, false, All, List, [], ◌∷◌, length, slice_get}
use Rattle.rhythm_base.specs.Trees.{suits}
use Rattle.rhythm_base.specs.declared.rule.Rule.{Rule}
use Rattle.best_trees.specs.declared.suited.Suited.{Suited}

-- no rule suits from one number on and below another
abbrev pub NoneSuit : List Rule → ℕ × ℕ → ℕ → ℕ → Type 0
NoneSuit rules q from to = (r : ℕ) → from ≤ r → r < to → suits (slice_get rules r) q ≡ false

-- these are, in order, the rules that suit among those from one number on and below another
abbrev pub AreSuiting : List Rule → ℕ × ℕ → List ℕ → ℕ → ℕ → Type 0
AreSuiting rules q [] from to = NoneSuit rules q from to
AreSuiting rules q (n ∷ ns) from to = (from ≤ n) × (n < to) × NoneSuit rules q from n × (suits (slice_get rules n) q ≡ true) × AreSuiting rules q ns (n + 1) to

-- these are, in order, all rules that suit
abbrev pub AreAllThatSuit : List Rule → ℕ × ℕ → List ℕ → Type 0
AreAllThatSuit rules q numbers = AreSuiting rules q numbers 0 (length rules)

-- so they are for each width and symbol that was asked for
abbrev pub AreAllSuited : List Rule → Suited → Type 0
AreAllSuited rules s = All (λ x. AreAllThatSuit rules (x.width, x.symbol) x.numbers.items) s.found.items

-- these are all that suit, by whatever rules all that were asked for do
abbrev pub AreKnownToSuit : Suited → ℕ × ℕ → List ℕ → Type 0
AreKnownToSuit s q numbers = (rules : List Rule) → AreAllSuited rules s → AreAllThatSuit rules q numbers
