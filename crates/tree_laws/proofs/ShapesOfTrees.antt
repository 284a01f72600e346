-- The shapes of trees: a pin asks for one shape, and trees of a readable grammar have shapes that an edit script can say.
use Rattle.std.proofs.Common.{◌≡◌, ℕ, zero, suc, ◌+◌, ◌*◌, ◌/◌, ◌^◌, ◌≤◌, ◌<◌, ◌==◌, ◌↔◌, inl, inr, nat_lt, max, true, List, [], ◌∷◌, map, length, refl, sym, ap, ap₂, ◌∙◌, subst, arith}
use Rattle.std.specs.Prelude.{⊤, Option, Some, None, nat_le, slice_get}
use Rattle.std.proofs.Math.Nat.{mul-le-mul_right}
use Rattle.std.proofs.lemmas.Bool.Decides.{nat_tests}
use Rattle.std.proofs.lemmas.List.{length-map}
use Rattle.std.proofs.lemmas.Option.{slice_get_within, get_or_from_slice_get}
use Rattle.rhythm_base.specs.declared.rule.Body.{Body}
use Rattle.rhythm_base.specs.declared.rule.Ending.{Ending}
use Rattle.rhythm_base.specs.declared.rule.Rule.{Rule}
use Rattle.rhythm_base.specs.Forest.{Tree, Forest, none, more}
use Rattle.rhythm_base.specs.Shape.{Shape, end, part}
use Rattle.rhythm_base.specs.Readable.{IsBodyOf, IsBody, IsReadable}
use Rattle.rhythm_base.specs.Grammar.{Grammar}
use Rattle.rhythm_base.specs.Shapes.{are_cut, can_have, depth, is_shape, parts_in}
use Rattle.rhythm_base.specs.Bodies.{Cut, can_cut, children, cut_of, divides, ending_of, equal, parts_of_cut, sizes, unequal}
use Rattle.rhythm_base.specs.Trees.{are_shaped, are_trees, children_of, has_pin, is_tree, shape_of, suits}
use Rattle.tree_laws.specs.Shares.{AreBelow}
use Rattle.tree_laws.proofs.Bars.{whole_share}
use Rattle.tree_laws.proofs.Ranks.{both}
use Rattle.rhythm_base.proofs.Booleans.{and_right}
use Rattle.tree_laws.proofs.Shares.{children-below}
use Rattle.rhythm_base.proofs.ShapeStops.{can_be}

-- ---- one shape

shaped-is : (s : Shape) (f : Forest) → are_shaped s f ≡ true → s ≡ shape_of f
shaped-is end none h = refl
shaped-is end (more r k rest) h = absurd (cc)
shaped-is (part x xs) none h = absurd (cc)
shaped-is (part x xs) (more r k rest) h =
    let p = both (are_shaped x k) _ h in
    ap₂ part (shaped-is x k p.0) (shaped-is xs rest p.1)

has-shape : (f : Forest) → are_shaped (shape_of f) f ≡ true
has-shape none = refl
has-shape (more r k rest) = let own = has-shape k in let others = has-shape rest in cc

pub one_shape_of : (s : Shape) (f : Forest) → (are_shaped s f ≡ true) ↔ (s ≡ shape_of f)
one_shape_of s f = (shaped-is s f, λ e. subst (λ s. are_shaped s f ≡ true) (sym e) (has-shape f))

-- ---- the parts of a cut

-- trees have as many parts as they have symbols
pub parts-many : (rules : List Rule) (qs : List (ℕ × ℕ)) (f : Forest) → are_trees rules qs f ≡ true → parts_in (shape_of f) ≡ length qs
parts-many rules [] none h = refl
parts-many rules [] (more r k rest) h = absurd (cc)
parts-many rules (q ∷ qs) none h = absurd (cc)
parts-many rules (q ∷ qs) (more r k rest) h =
    let below = (both (suits (slice_get rules r) q) _ h).1 in
    let others = parts-many rules qs rest (both (are_trees rules (children_of (slice_get rules r) q.0) k) _ below).1 in
    omega (arith, others)

cut-parts : (version names : ℕ) (c : Option Cut) (e : Option Ending) (w : ℕ) → IsBodyOf version names c e → can_have (length (parts_of_cut c w)) ≡ true
cut-parts version names (Some (equal ks)) e w h =
    rw (length-map {B = ℕ × ℕ} ks (λ s. (w / max 1 (length ks), s))) (can_be (length ks) h.0 h.1)
cut-parts version names (Some (unequal ps)) e w h =
    rw (length-map {B = ℕ × ℕ} ps (λ q. (q.0 * (w / max 1 (sizes ps)), q.1))) (can_be (length ps) h.1 h.2)
cut-parts version names None e w h = refl

body-parts : (version names : ℕ) (b : Body) (w : ℕ) → IsBody version names b → can_have (length (children b w)) ≡ true
body-parts version names b w h = cut-parts version names (cut_of b) (ending_of b) w h

-- ---- the levels

-- each width meets a condition
abbrev EachWidth : (ℕ → Type 0) → List (ℕ × ℕ) → Type 0
EachWidth P [] = ⊤
EachWidth P (q ∷ qs) = P q.0 × EachWidth P qs

-- where the children of a node at level n + 1 are at level n at most, trees at level n have as many levels
module _ (rules : List Rule) (At : ℕ → ℕ → Type 0)
    (falls : (n r : ℕ) (q : ℕ × ℕ) → At n q.0 → suits (slice_get rules r) q ≡ true → (m : ℕ) × (n ≡ suc m) × EachWidth (At m) (children_of (slice_get rules r) q.0)) where
  depth-at : (f : Forest) (n : ℕ) (qs : List (ℕ × ℕ)) → EachWidth (At n) qs → are_trees rules qs f ≡ true → depth (shape_of f) ≤ n
  depth-at none n qs each h = omega arith
  depth-at (more r k rest) n [] each h = absurd (cc)
  depth-at (more r k rest) n (q ∷ qs) each h =
      let own = both (suits (slice_get rules r) q) _ h in
      let below = both (are_trees rules (children_of (slice_get rules r) q.0) k) _ own.1 in
      let fall = falls n r q each.0 own.0 in
      let kids = depth-at k fall.0 (children_of (slice_get rules r) q.0) fall.2 below.0 in
      let others = depth-at rest n qs each.1 below.1 in
      let level : n ≡ suc fall.0 = fall.1 in
      omega (arith, kids, others, level)

  -- the parts of one tree have a level less
  depth-kids : (n : ℕ) (q : ℕ × ℕ) (r : ℕ) (k : Forest) → At n q.0 → are_trees rules (q ∷ []) (more r k none) ≡ true → depth (shape_of k) + 1 ≤ n
  depth-kids n q r k at h =
      let own = both (suits (slice_get rules r) q) _ h in
      let below = both (are_trees rules (children_of (slice_get rules r) q.0) k) _ own.1 in
      let fall = falls n r q at own.0 in
      let kids = depth-at k fall.0 (children_of (slice_get rules r) q.0) fall.2 below.0 in
      let level : n ≡ suc fall.0 = fall.1 in
      omega (arith, kids, level)

-- in version 2 each part is narrower than the whole
abbrev AtMost : ℕ → ℕ → Type 0
AtMost n w = (1 ≤ w) × (w ≤ n)

narrower : (n : ℕ) (w : ℕ) (qs : List (ℕ × ℕ)) → w ≤ suc n → AreBelow w qs → EachWidth (AtMost n) qs
narrower n w [] h below = tt
narrower n w (q ∷ qs) h below = ((below.0, omega (arith, below.1)), narrower n w qs h below.2)

narrow-falls : (rules : List Rule) (n r : ℕ) (q : ℕ × ℕ) → AtMost n q.0 → suits (slice_get rules r) q ≡ true
    → (m : ℕ) × (n ≡ suc m) × EachWidth (AtMost m) (children_of (slice_get rules r) q.0)
narrow-falls rules n r q at suit = go (slice_get rules r) n at suit
  where
    go : (o : Option Rule) (n : ℕ) → AtMost n q.0 → suits o q ≡ true → (m : ℕ) × (n ≡ suc m) × EachWidth (AtMost m) (children_of o q.0)
    go o zero at suit = absurd (omega (arith, at.0, at.1))
    go None (suc n) at suit = absurd (cc)
    go (Some rule) (suc n) at suit = (n, refl, narrower n q.0 (children rule.body q.0) at.1 (children-below rule.body q.0 at.0 (and_right (rule.lhs == q.1) _ suit)))

-- in version 1, where all parts of a cut are equal, each is half as wide as the whole at most
abbrev Halves : ℕ → ℕ → Type 0
Halves n w = (1 ≤ w) × (w < 2 ^ n)

halved : (n w v : ℕ) (ks : List ℕ) → 1 ≤ v → 2 * v ≤ w → w < 2 ^ suc n → EachWidth (Halves n) (map (λ s. (v, s)) ks)
halved n w v [] some h high = tt
halved n w v (k ∷ ks) some h high =
    let twice : 2 ^ suc n ≡ 2 * 2 ^ n = grind arith in
    ((some, omega (arith, twice)), halved n w v ks some h high)

half-cut : (names n w : ℕ) (c : Option Cut) (e : Option Ending) → IsBodyOf 1 names c e → 1 ≤ w → w < 2 ^ suc n → divides c w ≡ true → EachWidth (Halves n) (parts_of_cut c w)
half-cut names n w (Some (equal ks)) e body low high cuts =
    let many : 2 ≤ length ks = body.0 in
    let share = whole_share w (length ks) low (omega arith) (and_right (nat_lt 1 (length ks)) _ cuts) in
    let twice = mul-le-mul_right (w / max 1 (length ks)) many in
    halved n w (w / max 1 (length ks)) ks share.1 (omega (arith, share.0, twice)) high
half-cut names n w (Some (unequal ps)) e body low high cuts = let other : 1 ≡ 2 = body.0 in absurd (omega (arith, other))
half-cut names n w None e body low high cuts = tt

half-parts : (names n w : ℕ) (b : Body) → IsBody 1 names b → 1 ≤ w → w < 2 ^ suc n → can_cut b w ≡ true → EachWidth (Halves n) (children b w)
half-parts names n w b body low high cuts = half-cut names n w (cut_of b) (ending_of b) body low high cuts

half-falls : (names : ℕ) (rules : List Rule) → ((r : ℕ) (rule : Rule) → slice_get rules r ≡ Some rule → IsBody 1 names rule.body) → (n r : ℕ) (q : ℕ × ℕ) → Halves n q.0 → suits (slice_get rules r) q ≡ true
    → (m : ℕ) × (n ≡ suc m) × EachWidth (Halves m) (children_of (slice_get rules r) q.0)
half-falls names rules bodies n r q at suit = go (slice_get rules r) refl n at suit
  where
    go : (o : Option Rule) → slice_get rules r ≡ o → (n : ℕ) → Halves n q.0 → suits o q ≡ true → (m : ℕ) × (n ≡ suc m) × EachWidth (Halves m) (children_of o q.0)
    go o e zero at suit = absurd (omega (arith, at.0, at.1))
    go None e (suc n) at suit = absurd (cc)
    go (Some rule) e (suc n) at suit = (n, refl, half-parts names n q.0 rule.body (bodies r rule e) at.0 at.1 (and_right (rule.lhs == q.1) _ suit))

-- ---- a readable grammar

module _ (g : Grammar) (readable : IsReadable g) where
  pub body-of : (r : ℕ) (rule : Rule) → slice_get g.rules r ≡ Some rule → IsBody g.version (length g.names) rule.body
  body-of r rule e =
      let P : Rule → Type 0 = λ x. IsBody g.version (length g.names) x.body in
      subst P (get_or_from_slice_get g.rules r rule rule e) (readable.bodies r rule (slice_get_within g.rules r rule e))

  rule-parts : (r : ℕ) (q : ℕ × ℕ) → suits (slice_get g.rules r) q ≡ true → can_have (length (children_of (slice_get g.rules r) q.0)) ≡ true
  rule-parts r q suit = go (slice_get g.rules r) refl suit
    where
      go : (o : Option Rule) → slice_get g.rules r ≡ o → suits o q ≡ true → can_have (length (children_of o q.0)) ≡ true
      go None e suit = absurd (cc)
      go (Some rule) e suit = body-parts g.version (length g.names) rule.body q.0 (body-of r rule e)

  all_cut : (qs : List (ℕ × ℕ)) (f : Forest) → are_trees g.rules qs f ≡ true → are_cut (shape_of f) ≡ true
  all_cut qs none h = refl
  all_cut [] (more r k rest) h = absurd (cc)
  all_cut (q ∷ qs) (more r k rest) h =
      let own = both (suits (slice_get g.rules r) q) _ h in
      let below = both (are_trees g.rules (children_of (slice_get g.rules r) q.0) k) _ own.1 in
      let many = ap can_have (parts-many g.rules (children_of (slice_get g.rules r) q.0) k below.0) ∙ rule-parts r q own.0 in
      let kids = all_cut (children_of (slice_get g.rules r) q.0) k below.0 in
      let others = all_cut qs rest below.1 in
      cc

  levels : (symbol r : ℕ) (k : Forest) → are_trees g.rules ((g.resolution, symbol) ∷ []) (more r k none) ≡ true → depth (shape_of k) ≤ 95
  levels symbol r k h = elim readable.version [
    | inl one ↦
        let few_units : g.resolution ≤ 960 = readable.ranges.few_units in
        let low : 1 ≤ g.resolution = readable.ranges.some_unit in
        let bodies : (r : ℕ) (rule : Rule) → slice_get g.rules r ≡ Some rule → IsBody 1 (length g.names) rule.body = λ r rule e. subst (λ v. IsBody v (length g.names) rule.body) one (body-of r rule e) in
        let deep = depth-kids g.rules Halves (half-falls (length g.names) g.rules bodies) 10 (g.resolution, symbol) r k (low, omega arith) h in
        omega (arith, deep)
    | inr two ↦
        let few_units : g.resolution ≤ 96 = readable.unequal_units two in
        let low : 1 ≤ g.resolution = readable.ranges.some_unit in
        let deep = depth-kids g.rules AtMost (narrow-falls g.rules) 96 (g.resolution, symbol) r k (low, few_units) h in
        omega (arith, deep)
  ]

  trees-shape : (symbol r : ℕ) (k : Forest) → are_trees g.rules ((g.resolution, symbol) ∷ []) (more r k none) ≡ true → is_shape (shape_of k) ≡ true
  trees-shape symbol r k h =
      let own = both (suits (slice_get g.rules r) (g.resolution, symbol)) _ h in
      let below = both (are_trees g.rules (children_of (slice_get g.rules r) g.resolution) k) _ own.1 in
      let many = ap can_have (parts-many g.rules (children_of (slice_get g.rules r) g.resolution) k below.0) ∙ rule-parts r (g.resolution, symbol) own.0 in
      let cut = all_cut (children_of (slice_get g.rules r) g.resolution) k below.0 in
      let deep : nat_le (depth (shape_of k)) 95 ≡ true = let can_be = levels symbol r k h in grind (arith, nat_tests) in
      cc

pub tree-has_shape : (g : Grammar) (symbol : ℕ) (pin : Option Shape) (t : Tree) → IsReadable g → is_tree g.rules g.resolution symbol pin t ≡ true → is_shape (shape_of t.kids) ≡ true
tree-has_shape g symbol pin t readable h =
    trees-shape g readable symbol t.rule t.kids (both (are_trees g.rules ((g.resolution, symbol) ∷ []) (more t.rule t.kids none)) (has_pin pin t) h).0
