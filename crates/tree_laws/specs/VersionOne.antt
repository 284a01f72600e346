-- What a grammar of version 1 meant before there were grammars of version 2: trees whose cuts are equal, and one weight for early and
-- late onsets.
use Rattle.std.specs.Prelude.{ℕ, ◌+◌, ◌/◌, ◌%◌, Bool, true, false, ◌&&◌, ◌==◌, nat_lt, List, [], ◌∷◌, ◌++◌, length, map, max, slice_get, Option, Some, None, if◌then◌else◌}
use Rattle.rhythm_base.specs.declared.inner.Inner.{Inner}
use Rattle.rhythm_base.specs.declared.rule.Rule.{Rule}
use Rattle.rhythm_base.specs.Bodies.{Cut, cut_of, equal, unequal}
use Rattle.rhythm_base.specs.Cost.{displacement_in}
use Rattle.rhythm_base.specs.Forest.{Forest, none, more}
use Rattle.rhythm_base.specs.Leaves.{Leaf, lies_in}
use Rattle.rhythm_base.specs.Trees.{BarLeaf, leaves_at}

-- ---- trees: a rule is a leaf, or cuts its width into equal parts, whose number divides the width

abbrev pub equal_parts : Option Cut → ℕ → List (ℕ × ℕ)
equal_parts None w = []
equal_parts (Some (equal symbols)) w = map (λ s. (w / max 1 (length symbols), s)) symbols
equal_parts (Some (unequal parts)) w = []

abbrev pub is_equal_cut : Option Cut → ℕ → Bool
is_equal_cut None w = true
is_equal_cut (Some (equal symbols)) w = nat_lt 1 (length symbols) && (w % max 1 (length symbols) == 0)
is_equal_cut (Some (unequal parts)) w = false

abbrev pub equal_children : Option Rule → ℕ → List (ℕ × ℕ)
equal_children None w = []
equal_children (Some rule) w = equal_parts (cut_of rule.body) w

abbrev pub suits_equally : Option Rule → ℕ × ℕ → Bool
suits_equally None q = false
suits_equally (Some rule) q = (rule.lhs == q.1) && is_equal_cut (cut_of rule.body) q.0

abbrev pub are_equal_trees : List Rule → List (ℕ × ℕ) → Forest → Bool
are_equal_trees rules [] none = true
are_equal_trees rules [] (more r kids rest) = false
are_equal_trees rules (q ∷ qs) none = false
are_equal_trees rules (q ∷ qs) (more r kids rest) =
    suits_equally (slice_get rules r) q
    && (are_equal_trees rules (equal_children (slice_get rules r) q.0) kids && are_equal_trees rules qs rest)

abbrev pub equal_leaves : List Rule → ℕ → List (ℕ × ℕ) → Forest → List BarLeaf
equal_leaves rules p qs none = []
equal_leaves rules p [] (more r kids rest) = []
equal_leaves rules p (q ∷ qs) (more r kids rest) =
    leaves_at (slice_get rules r) p q.0
    ++ (equal_leaves rules p (equal_children (slice_get rules r) q.0) kids ++ equal_leaves rules (p + q.0) qs rest)

-- ---- costs: the displacement of an onset, and of all of them

abbrev pub displacement : ℕ → List Leaf → ℕ → ℕ
displacement r [] t = 0
displacement r (x ∷ xs) t = if lies_in r x t then displacement_in r x t else displacement r xs t

abbrev pub displaced : ℕ → List Leaf → List Inner → ℕ
displaced r xs [] = 0
displaced r xs (c ∷ cs) = displacement r xs c.onset + displaced r xs cs
