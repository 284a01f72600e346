-- Trees have no more leaves than units, so none fit where a part is to have more.
use Rattle.std.proofs.Common.{◌≡◌, ℕ, ◌<◌, ◌≤◌, inl, inr, true, List, [], ◌∷◌, refl, ap, subst, arith}
use Rattle.std.specs.Prelude.{Option, Some, None, slice_get}
use Rattle.rhythm_base.specs.Bodies.{can_cut, children, cuts_or_ends, parts_of_cut, sizes}
use Rattle.rhythm_base.specs.Forest.{Forest, none, more}
use Rattle.rhythm_base.specs.Shape.{Shape, end, part}
use Rattle.rhythm_base.specs.Trees.{are_shaped, are_trees, children_of, leaf_of_ending, suits}
use Rattle.rhythm_base.specs.declared.rule.Rule.{Rule}
use Rattle.tree_laws.specs.Forests.{AreWide, first_shape, has_shapes, one_shape, other_shapes}
use Rattle.tree_laws.proofs.Ranks.{both}
use Rattle.tree_laws.proofs.Shares.{below-wide, children-below, children-whole}
use Rattle.best_trees.specs.Pins.{NoneFit, leaf_count, least_leaves}

-- the parts of a node are some units wide, and together no wider than the node
kids-within : (rule : Rule) (w s : ℕ) → 1 ≤ w → suits (Some rule) (w, s) ≡ true → AreWide (children rule.body w) × (sizes (children rule.body w) ≤ w)
kids-within rule w s wide suit =
    let cuts = (both _ (can_cut rule.body w) suit).1 in (
      below-wide w (children rule.body w) (children-below rule.body w wide cuts),
      elim (cuts_or_ends rule.body) [
        | inl t ↦ let whole = (children-whole rule.body 0 w wide cuts (ap (λ o. leaf_of_ending o 0 w) t.2)).0 in omega (arith, whole)
        | inr t ↦ let bare : children rule.body w ≡ [] = ap (λ c. parts_of_cut c w) t.1 in (let none_wide : sizes (children rule.body w) ≡ 0 = ap sizes bare in omega (arith, none_wide))
      ],
    )

pub enough-units : (rules : List Rule) (f : Forest) (qs : List (ℕ × ℕ)) (s : Shape) → AreWide qs → are_trees rules qs f ≡ true → are_shaped s f ≡ true → leaf_count s ≤ sizes qs
enough-units rules none qs end wide trees shaped = omega arith
enough-units rules none qs (part x xs) wide trees shaped = absurd (cc)
enough-units rules (more r kids rest) qs end wide trees shaped = absurd (cc)
enough-units rules (more r kids rest) [] (part x xs) wide trees shaped = absurd (cc)
enough-units rules (more r kids rest) (q ∷ qs) (part x xs) wide trees shaped =
    let own = both (suits (slice_get rules r) q) _ trees in
    let below = both (are_trees rules (children_of (slice_get rules r) q.0) kids) _ own.1 in
    let shapes = both (are_shaped x kids) _ shaped in
    let parts = within (slice_get rules r) own.0 in
    let first = enough-units rules kids (children_of (slice_get rules r) q.0) x parts.0 below.0 shapes.0 in
    let others = enough-units rules rest qs xs wide.1 below.1 shapes.1 in
    let fit = parts.1 in
    let some = wide.0 in
    omega (arith, first, others, fit, some)
  where
    within : (o : Option Rule) → suits o q ≡ true → AreWide (children_of o q.0) × (sizes (children_of o q.0) ≤ q.0)
    within None suit = absurd (cc)
    within (Some rule) suit = kids-within rule q.0 q.1 wide.0 suit

-- ---- trees side by side

-- no trees may stand where one is
pub closed-none : (q : ℕ × ℕ) (qs : List (ℕ × ℕ)) (s : Option Shape) → s ≡ Some end → NoneFit (q ∷ qs) s
closed-none q qs s e rules f trees shaped = go f trees (subst (λ s. has_shapes s f ≡ true) e shaped)
  where
    go : (f : Forest) → are_trees rules (q ∷ qs) f ≡ true → has_shapes (Some end) f ≡ true → ⊥
    go none trees shaped = absurd (cc)
    go (more r kids rest) trees shaped = absurd (cc)

-- the others do not fit, so all do not
pub others-none : (q : ℕ × ℕ) (qs : List (ℕ × ℕ)) (s u : Option Shape) → other_shapes s ≡ u → NoneFit qs u → NoneFit (q ∷ qs) s
others-none q qs s u e bare rules none trees shaped = absurd (cc)
others-none q qs s u e bare rules (more r kids rest) trees shaped =
    let below = (both (suits (slice_get rules r) q) _ trees).1 in
    bare rules rest (both (are_trees rules (children_of (slice_get rules r) q.0) kids) _ below).1 (subst (λ s. has_shapes s rest ≡ true) e (rest-shaped s shaped))
  where
    rest-shaped : (s : Option Shape) → has_shapes s (more r kids rest) ≡ true → has_shapes (other_shapes s) rest ≡ true
    rest-shaped None h = refl
    rest-shaped (Some end) h = absurd (cc)
    rest-shaped (Some (part x xs)) h = (both (are_shaped x kids) _ h).1

-- the first is to have more leaves than units
pub crowded-none : (q : ℕ × ℕ) (qs : List (ℕ × ℕ)) (s t : Option Shape) (n : ℕ) → 1 ≤ q.0 → first_shape s ≡ one_shape t → n ≤ least_leaves t → q.0 < n → NoneFit (q ∷ qs) s
crowded-none q qs s t n wide e least many rules none trees shaped = absurd (cc)
crowded-none q qs s t n wide e least many rules (more r kids rest) trees shaped =
    let own = both (suits (slice_get rules r) q) _ trees in
    let below = both (are_trees rules (children_of (slice_get rules r) q.0) kids) _ own.1 in
    let alone : are_trees rules (q ∷ []) (more r kids none) ≡ true = let suit = own.0 in let kids_fit = below.0 in cc in
    let shape : has_shapes (one_shape t) (more r kids none) ≡ true = subst (λ s. has_shapes s (more r kids none) ≡ true) e (first-shaped s shaped) in
    few t least alone shape
  where
    first-shaped : (s : Option Shape) → has_shapes s (more r kids rest) ≡ true → has_shapes (first_shape s) (more r kids none) ≡ true
    first-shaped None h = refl
    first-shaped (Some end) h = absurd (cc)
    first-shaped (Some (part x xs)) h = let on = (both (are_shaped x kids) _ h).0 in cc

    few : (t : Option Shape) → n ≤ least_leaves t → are_trees rules (q ∷ []) (more r kids none) ≡ true → has_shapes (one_shape t) (more r kids none) ≡ true → ⊥
    few None least trees shape = omega (arith, least, many)
    few (Some x) least trees shape = let room = enough-units rules (more r kids none) (q ∷ []) (part x end) (wide, tt) trees shape in omega (arith, least, many, room)

pub nothing-none : (s : Option Shape) → (has_shapes s none ≡ true → ⊥) → NoneFit [] s
nothing-none s denied rules none trees shaped = denied shaped
nothing-none s denied rules (more r kids rest) trees shaped = absurd (cc)
