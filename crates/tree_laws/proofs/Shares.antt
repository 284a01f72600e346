-- The parts of a cut: two or more, each some unit wide and narrower than the whole, and together as wide as the whole.
use Rattle.std.proofs.Common.{None, inl, inr, ◌≡◌, ℕ, zero, suc, ◌+◌, ◌*◌, ◌/◌, ◌≤◌, ◌<◌, nat_lt, max, true, List, [], ◌∷◌, map, length, ap, ◌∙◌, arith, Option, Some, subst, sym}
use Rattle.std.specs.List.{list_all}
use Rattle.std.proofs.Math.Nat.{mul-le-mul_right}
use Rattle.std.proofs.lemmas.Bool.Decides.{nat_tests}
use Rattle.std.proofs.lemmas.List.{length-map}
use Rattle.rhythm_base.specs.declared.rule.Body.{Body}
use Rattle.rhythm_base.specs.Bodies.{Cut, can_cut, children, cut_of, cuts_or_ends, divides, equal, parts_of_cut, sizes, unequal}
use Rattle.rhythm_base.specs.Trees.{leaf_of, leaf_of_ending, BarLeaf}
use Rattle.tree_laws.specs.Forests.{AreWide}
use Rattle.tree_laws.specs.Shares.{AreBelow}
use Rattle.tree_laws.proofs.Bars.{equal_sizes, some_size, unequal_sizes, whole_share}
use Rattle.rhythm_base.proofs.Booleans.{and_left, and_right}

pub below-wide : (w : ℕ) (qs : List (ℕ × ℕ)) → AreBelow w qs → AreWide qs
below-wide w [] h = tt
below-wide w (q ∷ qs) h = (h.0, below-wide w qs h.2)

equal_below : (v w : ℕ) (ks : List ℕ) → 1 ≤ v → v < w → AreBelow w (map (λ s. (v, s)) ks)
equal_below v w [] h k = tt
equal_below v w (s ∷ ks) h k = (h, k, equal_below v w ks h k)

-- sizes after others of the sum before
unequal_below : (v w before : ℕ) (ps : List (ℕ × ℕ)) → 1 ≤ v → (before + sizes ps) * v ≡ w → list_all (λ q. nat_lt 0 q.0) ps ≡ true → 2 ≤ before + length ps → AreBelow w (map (λ q. (q.0 * v, q.1)) ps)
unequal_below v w before [] h e some many = tt
unequal_below v w before (q ∷ qs) h e some many =
    let own = and_left (nat_lt 0 q.0) _ some in
    let low : 1 ≤ q.0 = grind (arith, nat_tests) in
    let rest = and_right (nat_lt 0 q.0) _ some in
    let others : 1 ≤ before + sizes qs = go before many rest in
    let split : (before + (q.0 + sizes qs)) * v ≡ q.0 * v + (before + sizes qs) * v = grind arith in
    let wide = mul-le-mul_right v low in
    let apart = mul-le-mul_right v others in
    let next : (before + q.0 + sizes qs) * v ≡ w = ap (λ n. n * v) (the_sum before q.0 (sizes qs)) ∙ e in
    (omega (arith, wide), omega (arith, split, apart, e), unequal_below v w (before + q.0) qs h next rest (omega (arith, low, many)))
  where
    the_sum : (a b c : ℕ) → a + b + c ≡ a + (b + c)
    the_sum a b c = omega arith

    go : (n : ℕ) → 2 ≤ n + suc (length qs) → list_all (λ q. nat_lt 0 q.0) qs ≡ true → 1 ≤ n + sizes qs
    go zero many rest = let own = some_size qs (omega arith) rest in omega arith
    go (suc n) many rest = omega arith

cut-below : (c : Option Cut) (w : ℕ) → 1 ≤ w → divides c w ≡ true → AreBelow w (parts_of_cut c w)
cut-below None w low cuts = tt
cut-below (Some (equal ks)) w low cuts =
    let count = and_left (nat_lt 1 (length ks)) _ cuts in
    let many : 2 ≤ length ks = grind (arith, nat_tests) in
    let share = whole_share w (length ks) low (omega arith) (and_right (nat_lt 1 (length ks)) _ cuts) in
    let v : ℕ = w / max 1 (length ks) in
    let twice = mul-le-mul_right v many in
    equal_below v w ks share.1 (omega (arith, share.0, share.1, twice))
cut-below (Some (unequal ps)) w low cuts =
    let count = and_left (nat_lt 1 (length ps)) _ cuts in
    let many : 2 ≤ length ps = grind (arith, nat_tests) in
    let rest = and_right (nat_lt 1 (length ps)) _ cuts in
    let some = and_left (list_all (λ q. nat_lt 0 q.0) ps) _ rest in
    let size = some_size ps (omega arith) some in
    let share = whole_share w (sizes ps) low size (and_right (list_all (λ q. nat_lt 0 q.0) ps) _ rest) in
    let front : 0 + sizes ps ≡ sizes ps = omega arith in
    unequal_below (w / max 1 (sizes ps)) w 0 ps share.1 (ap (λ n. n * (w / max 1 (sizes ps))) front ∙ share.0) some (omega arith)

pub children-below : (b : Body) (w : ℕ) → 1 ≤ w → can_cut b w ≡ true → AreBelow w (children b w)
children-below b w low cuts = cut-below (cut_of b) w low cuts

cut-whole : (c : Cut) (w : ℕ) → 1 ≤ w → divides (Some c) w ≡ true → (sizes (parts_of_cut (Some c) w) ≡ w) × (2 ≤ length (parts_of_cut (Some c) w))
cut-whole (equal ks) w low cuts =
    let count = and_left (nat_lt 1 (length ks)) _ cuts in
    let many : 2 ≤ length ks = grind (arith, nat_tests) in
    let share = whole_share w (length ks) low (omega arith) (and_right (nat_lt 1 (length ks)) _ cuts) in
    (equal_sizes (w / max 1 (length ks)) ks ∙ share.0, omega (arith, many, length-map {B = ℕ × ℕ} ks (λ s. (w / max 1 (length ks), s))))
cut-whole (unequal ps) w low cuts =
    let count = and_left (nat_lt 1 (length ps)) _ cuts in
    let many : 2 ≤ length ps = grind (arith, nat_tests) in
    let rest = and_right (nat_lt 1 (length ps)) _ cuts in
    let some = and_left (list_all (λ q. nat_lt 0 q.0) ps) _ rest in
    let size = some_size ps (omega arith) some in
    let share = whole_share w (sizes ps) low size (and_right (list_all (λ q. nat_lt 0 q.0) ps) _ rest) in
    (unequal_sizes (w / max 1 (sizes ps)) ps ∙ share.0, omega (arith, many, length-map {B = ℕ × ℕ} ps (λ q. (q.0 * (w / max 1 (sizes ps)), q.1))))

pub children-whole : (b : Body) (p w : ℕ) → 1 ≤ w → can_cut b w ≡ true → leaf_of b p w ≡ [] → (sizes (children b w) ≡ w) × (2 ≤ length (children b w))
children-whole b p w low cuts bare = elim (cuts_or_ends b) [
  | inl t ↦
      let P : Option Cut → Type 0 = λ c. (sizes (parts_of_cut c w) ≡ w) × (2 ≤ length (parts_of_cut c w)) in
      subst P (sym t.1) (cut-whole t.0 w low (subst (λ c. divides c w ≡ true) t.1 cuts))
  | inr t ↦
      let one : leaf_of b p w ≡ record { ending = t.0; place = p; width = w } ∷ [] = ap (λ o. leaf_of_ending o p w) t.2 in
      let no : ◌≡◌ {A = List BarLeaf} (record { ending = t.0; place = p; width = w } ∷ []) [] = sym one ∙ bare in absurd (cc)
]
