-- Rhythm trees: rules over an interval of units, and their leaves. A tree of a symbol over an interval is a rule of that
-- symbol: a leaf, or a cut whose parts are trees of the rule's symbols. Equal parts, or parts by their sizes.
use Rattle.std.specs.Prelude.{ℕ, ◌+◌, Bool, true, false, ◌&&◌, ◌==◌, List, [], ◌∷◌, ◌++◌, slice_get, Option, Some, None}
use Rattle.rhythm_base.specs.declared.rule.Body.{Body}
use Rattle.rhythm_base.specs.declared.rule.Ending.{Ending}
use Rattle.rhythm_base.specs.declared.rule.Rule.{Rule}
use Rattle.rhythm_base.specs.Bodies.{can_cut, children, ending_of}
use Rattle.rhythm_base.specs.Forest.{Forest, none, more, Tree}
use Rattle.rhythm_base.specs.Shape.{Shape, end, part}

abbrev pub children_of : Option Rule → ℕ → List (ℕ × ℕ)
children_of None w = []
children_of (Some rule) w = children rule.body w

-- it is a rule of the symbol, and can cut the width
abbrev pub suits : Option Rule → ℕ × ℕ → Bool
suits None q = false
suits (Some rule) q = (rule.lhs == q.1) && can_cut rule.body q.0

-- there is one tree for each width and symbol, in order
abbrev pub are_trees : List Rule → List (ℕ × ℕ) → Forest → Bool
are_trees rules [] none = true
are_trees rules [] (more r kids rest) = false
are_trees rules (q ∷ qs) none = false
are_trees rules (q ∷ qs) (more r kids rest) =
    suits (slice_get rules r) q && (are_trees rules (children_of (slice_get rules r) q.0) kids && are_trees rules qs rest)

-- the parts are cut alike, whatever the rules
abbrev pub are_shaped : Shape → Forest → Bool
are_shaped end none = true
are_shaped end (more r kids rest) = false
are_shaped (part x xs) none = false
are_shaped (part x xs) (more r kids rest) = are_shaped x kids && are_shaped xs rest

-- the shape of the parts: how each is cut
abbrev pub shape_of : Forest → Shape
shape_of none = end
shape_of (more r kids rest) = part (shape_of kids) (shape_of rest)

-- the tree has the pin's shape, where there is a pin
abbrev pub has_pin : Option Shape → Tree → Bool
has_pin None t = true
has_pin (Some shape) t = are_shaped shape t.kids

-- a tree of the symbol over the width, of the pin's shape where there is a pin
abbrev pub is_tree : List Rule → ℕ → ℕ → Option Shape → Tree → Bool
is_tree rules width symbol pin t = are_trees rules ((width, symbol) ∷ []) (more t.rule t.kids none) && has_pin pin t

-- a leaf within its bar: how its rule ends it, and its place and width in units
pub record BarLeaf : Type 0 where
  pub ending : Ending
  pub place : ℕ
  pub width : ℕ

abbrev pub leaf_of_ending : Option Ending → ℕ → ℕ → List BarLeaf
leaf_of_ending None p w = []
leaf_of_ending (Some e) p w = record { ending = e; place = p; width = w } ∷ []

abbrev pub leaf_of : Body → ℕ → ℕ → List BarLeaf
leaf_of body p w = leaf_of_ending (ending_of body) p w

abbrev pub leaves_at : Option Rule → ℕ → ℕ → List BarLeaf
leaves_at None p w = []
leaves_at (Some rule) p w = leaf_of rule.body p w

-- the leaves of trees that stand side by side from the unit p on, left to right
abbrev pub leaves : List Rule → ℕ → List (ℕ × ℕ) → Forest → List BarLeaf
leaves rules p qs none = []
leaves rules p [] (more r kids rest) = []
leaves rules p (q ∷ qs) (more r kids rest) =
    leaves_at (slice_get rules r) p q.0
    ++ (leaves rules p (children_of (slice_get rules r) q.0) kids ++ leaves rules (p + q.0) qs rest)

-- the leaves of a tree of the symbol over the whole width
abbrev pub leaves_of : List Rule → ℕ → ℕ → Tree → List BarLeaf
leaves_of rules width symbol t = leaves rules 0 ((width, symbol) ∷ []) (more t.rule t.kids none)
