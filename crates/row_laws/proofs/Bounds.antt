-- What trees that fit cost at most: R * cost + 1,000,000 * R * trees <= 2,000,000 * R * width + 983,040,000 * width. So no
-- sum in a bar is too large.
use Rattle.std.proofs.Common.{inl, inr, ◌≡◌, ℕ, suc, ◌<◌, ◌≤◌, ◌+◌, ◌-◌, ◌*◌, ◌/◌, ◌&&◌, ◌==◌, Bool, true, false, not, List, [], ◌∷◌, ◌++◌, length, map, filter, cond, refl, ap, subst, arith, subst₂}
use Rattle.std.specs.Prelude.{Option, Some, None, slice_get, if◌then◌else◌, nat_le}
use Rattle.std.proofs.Math.Nat.{mul-le-mul_right, mul-le-mul_left}
use Rattle.std.proofs.lemmas.Bool.{cases_lt}
use Rattle.std.proofs.lemmas.Bool.Decides.{nat_tests}
use Rattle.std.proofs.lemmas.List.Sums.{sum_by-cons}
use Rattle.std.proofs.lemmas.Option.{slice_get_within, get_or_from_slice_get}
use Rattle.rhythm_base.specs.declared.rule.Body.{Body}
use Rattle.rhythm_base.specs.Bodies.{cuts_or_ends, can_cut, children, sizes, parts_of_cut}
use Rattle.tree_laws.proofs.Runs.{agrees-few}
use Rattle.rhythm_base.specs.declared.rule.Rule.{Rule}
use Rattle.rhythm_base.specs.Lists.{gap}
use Rattle.rhythm_base.specs.Cost.{charge, charge_in, charges, displacement_in, is_late, attached_unit, weight_of, weights}
use Rattle.rhythm_base.specs.Forest.{Forest, none, more, preorder}
use Rattle.rhythm_base.specs.Leaves.{Leaf, goes_left, in_bar, lies_in, looks}
use Rattle.rhythm_base.specs.declared.inner.Inner.{Inner}
use Rattle.rhythm_base.specs.Readable.{IsInRange}
use Rattle.rhythm_base.specs.Grammar.{Grammar}
use Rattle.rhythm_base.specs.Trees.{BarLeaf, are_trees, children_of, leaf_of, leaves, leaves_at, suits, leaf_of_ending}
use Rattle.rhythm_base.specs.Shape.{Shape}
use Rattle.tree_laws.specs.Forests.{AreWide, Ground, IsGround, StandsInBar, forest_cost}
use Rattle.tree_laws.specs.Places.{FitsAt}
use Rattle.tree_laws.proofs.ForestLemmas.{forest_cost-first}
use Rattle.tree_laws.proofs.Places.{trees-split}
use Rattle.tree_laws.proofs.Ranks.{both}
use Rattle.row_laws.proofs.RuleKeys.{top_cost}
use Rattle.tree_laws.specs.Runs.{lefts, rights}
use Rattle.rhythm_base.specs.Line.{agrees}
use Rattle.tree_laws.proofs.Shares.{below-wide, children-below, children-whole}
use Rattle.rhythm_base.proofs.Booleans.{and_left, and_right}

-- ---- one onset

-- twice the displacement, in units of the bar, is at most 3840 beats of the leaf's width
displaced : (num den length r w gap : ℕ) → 1 ≤ num → num ≤ 64 → 1 ≤ den → 1 ≤ length → 1 ≤ r → 2 * gap ≤ w * length
    → r * ((3840 * num * gap) / (den * (r * length))) ≤ 122880 * w
displaced num den length r w gap some few low long unit half =
    let q : ℕ = (3840 * num * gap) / (den * (r * length)) in
    let whole : den * (r * length) * q ≤ 3840 * num * gap = omega arith in
    let one : 1 * (r * length * q) ≤ den * (r * length * q) = mul-le-mul_right (r * length * q) low in
    let same_one : den * (r * length) * q ≡ den * (r * length * q) = grind arith in
    let two : 1920 * num * (2 * gap) ≤ 1920 * num * (w * length) = mul-le-mul_left (1920 * num) half in
    let same_two : 1920 * num * (2 * gap) ≡ 3840 * num * gap = grind arith in
    let three : num * (1920 * (w * length)) ≤ 64 * (1920 * (w * length)) = mul-le-mul_right (1920 * (w * length)) few in
    let same_three : 1920 * num * (w * length) ≡ num * (1920 * (w * length)) = grind arith in
    let all : r * length * q ≤ 64 * (1920 * (w * length)) = omega (arith, whole, one, same_one, two, same_two, three, same_three) in
    let left : r * length * q ≡ r * q * length = grind arith in
    let right : 64 * (1920 * (w * length)) ≡ 122880 * w * length = grind arith in
    by_length (r * q) (122880 * w) (omega (arith, all, left, right))
  where
    by_length : (a b : ℕ) → a * length ≤ b * length → a ≤ b
    by_length a b h = elim (cases_lt b a) [
      | inr le ↦ le
      | inl above ↦
          let next : (b + 1) * length ≤ a * length = mul-le-mul_right length (omega (arith, above)) in
          let split : (b + 1) * length ≡ b * length + length = grind arith in
          absurd (omega (arith, next, split, h, long))
    ]

-- an onset of the leaf is at most half a leaf from the unit that it is attached at
half_apart : (r : ℕ) (x : Leaf) (t : ℕ) → lies_in r x t ≡ true
    → 2 * gap ((t - x.bar.start) * r) (attached_unit r x t * x.bar.length) ≤ x.part.width * x.bar.length
half_apart r x t h = go (goes_left r x t) refl
  where
    n : ℕ
    n = (t - x.bar.start) * r

    within : ((x.part.place * x.bar.length) ≤ (t - x.bar.start) * r) × ((t - x.bar.start) * r < (x.part.place + x.part.width) * x.bar.length)
    within =
        let rest = and_right (nat_le x.bar.start t) _ h in
        let low = and_left (nat_le (x.part.place * x.bar.length) ((t - x.bar.start) * r)) _ rest in
        let high = and_right (nat_le (x.part.place * x.bar.length) ((t - x.bar.start) * r)) _ rest in
        (grind (arith, nat_tests), grind (arith, nat_tests))

    split : (x.part.place + x.part.width) * x.bar.length ≡ x.part.place * x.bar.length + x.part.width * x.bar.length
    split = grind arith

    go : (b : Bool) → goes_left r x t ≡ b → 2 * gap ((t - x.bar.start) * r) ((if b then x.part.place else x.part.place + x.part.width) * x.bar.length) ≤ x.part.width * x.bar.length
    go true e =
        let near : 2 * ((t - x.bar.start) * r - x.part.place * x.bar.length) ≤ x.part.width * x.bar.length = grind (arith, nat_tests) in
        omega (arith, near, within.0)
    go false e =
        let far : x.part.width * x.bar.length < 2 * ((t - x.bar.start) * r - x.part.place * x.bar.length) = grind (arith, nat_tests) in
        omega (arith, far, within.0, within.1, split)

charge-bound : (g : Grammar) (x : Leaf) (t : ℕ) → g.early ≤ 1000 → g.late ≤ 1000 → 1 ≤ x.bar.num → x.bar.num ≤ 64 → 1 ≤ x.bar.den → 1 ≤ x.bar.length → 1 ≤ g.resolution
    → lies_in g.resolution x t ≡ true → g.resolution * charge_in g x t ≤ 122880000 * x.part.width
charge-bound g x t early late some few low long unit h =
    let q : ℕ = displacement_in g.resolution x t in
    let one : g.resolution * q ≤ 122880 * x.part.width = displaced x.bar.num x.bar.den x.bar.length g.resolution x.part.width (gap ((t - x.bar.start) * g.resolution) (attached_unit g.resolution x t * x.bar.length)) some few low long unit (half_apart g.resolution x t h) in
    go (is_late g.resolution x t) q one
  where
    go : (b : Bool) (q : ℕ) → g.resolution * q ≤ 122880 * x.part.width → g.resolution * ((if b then g.late else g.early) * q) ≤ 122880000 * x.part.width
    go true q one =
        let two : g.late * (g.resolution * q) ≤ 1000 * (g.resolution * q) = mul-le-mul_right (g.resolution * q) late in
        let same : g.resolution * (g.late * q) ≡ g.late * (g.resolution * q) = grind arith in
        omega (arith, one, two, same)
    go false q one =
        let two : g.early * (g.resolution * q) ≤ 1000 * (g.resolution * q) = mul-le-mul_right (g.resolution * q) early in
        let same : g.resolution * (g.early * q) ≡ g.early * (g.resolution * q) = grind arith in
        omega (arith, one, two, same)

-- ---- the onsets of a leaf

module _ (g : Grammar) (x : Leaf) (each : (t : ℕ) → lies_in g.resolution x t ≡ true → g.resolution * charge_in g x t ≤ 122880000 * x.part.width) where
  -- by the numbers of its left and right onsets
  leaf-charges : (cs : List Inner) → g.resolution * charges g (x ∷ []) cs ≤ 122880000 * x.part.width * (length (lefts (looks g.resolution) x cs) + length (rights (looks g.resolution) x cs))
  leaf-charges [] = let nothing : charges g (x ∷ []) [] ≡ 0 = refl in let none : g.resolution * 0 ≡ 0 = grind arith in omega (arith, nothing, none)
  leaf-charges (c ∷ cs) =
      let next = sum_by-cons (λ c. charge g (x ∷ []) c.onset) c cs in
      go (charges g (x ∷ []) (c ∷ cs)) (lies_in g.resolution x c.onset) refl (goes_left g.resolution x c.onset) next (leaf-charges cs)
    where
      plain : (r w n m a b : ℕ) → r * b ≤ w * (n + m) → r * a ≤ w → (r * (a + b) ≤ w * (suc n + m)) × (r * (a + b) ≤ w * (n + suc m))
      plain r w n m a b h k =
          let one : r * (a + b) ≡ r * a + r * b = grind arith in
          let two : w * (suc n + m) ≡ w + w * (n + m) = grind arith in
          let three : w * (n + suc m) ≡ w + w * (n + m) = grind arith in
          (omega (arith, one, two), omega (arith, one, three))

      ls : List Inner
      ls = filter (λ c. lies_in g.resolution x c.onset && goes_left g.resolution x c.onset) cs

      rs : List Inner
      rs = filter (λ c. lies_in g.resolution x c.onset && not (goes_left g.resolution x c.onset)) cs

      go : (n : ℕ) (b : Bool) → lies_in g.resolution x c.onset ≡ b → (e : Bool)
          → n ≡ (if b then charge_in g x c.onset else 0) + charges g (x ∷ []) cs
          → g.resolution * charges g (x ∷ []) cs ≤ 122880000 * x.part.width * (length (map (λ c. c.end) ls) + length (map (λ c. c.end) rs))
          → g.resolution * n ≤ 122880000 * x.part.width * (length (map (λ c. c.end) (cond (b && e) (c ∷ ls) ls)) + length (map (λ c. c.end) (cond (b && not e) (c ∷ rs) rs)))
      go n true h true next ih = rw next (plain g.resolution (122880000 * x.part.width) (length (map (λ c. c.end) ls)) (length (map (λ c. c.end) rs)) (charge_in g x c.onset) (charges g (x ∷ []) cs) ih (each c.onset h)).0
      go n true h false next ih = rw next (plain g.resolution (122880000 * x.part.width) (length (map (λ c. c.end) ls)) (length (map (λ c. c.end) rs)) (charge_in g x c.onset) (charges g (x ∷ []) cs) ih (each c.onset h)).1
      go n false h e next ih = let same : n ≡ charges g (x ∷ []) cs = omega (arith, next) in rw same ih

-- ---- a tree

pub record IsBounded (d : Ground) : Type 0 where
  pub ranges : IsInRange d.book
  pub some_beat : 1 ≤ d.bar.num
  pub few_beats : d.bar.num ≤ 64
  pub some_den : 1 ≤ d.bar.den

module _ (d : Ground) (ground : IsGround d) (bounded : IsBounded d) where
  one_leaf : (p w : ℕ) (x : BarLeaf) (a b c n : ℕ) → x.width ≡ w → 1 ≤ w → c ≤ 1000000 → n ≡ c + (0 + charges d.book (in_bar d.bar (x ∷ [])) d.chords)
      → FitsAt d.book.resolution d.bar d.chords d.before p (x ∷ []) a b → d.book.resolution * n + 1000000 * d.book.resolution ≤ 2000000 * (d.book.resolution * w) + 983040000 * w
  one_leaf p w x a b c n wide some light cost fits =
      let y : Leaf = record { bar = d.bar; part = x } in
      let r : ℕ = d.book.resolution in
      let l : ℕ = length (lefts (looks d.book.resolution) y d.chords) in
      let o : ℕ = length (rights (looks d.book.resolution) y d.chords) in
      let few = agrees-few x.ending (a + l) _ (and_left (agrees x.ending (a + l) _) _ fits.runs) in
      let out : o ≡ b = fits.leave in
      let few_out : b ≤ 4 = fits.few_to in
      let charged : r * charges d.book (y ∷ []) d.chords ≤ 122880000 * x.width * (l + o)
      = leaf-charges d.book y (λ t h. charge-bound d.book y t bounded.ranges.early bounded.ranges.late bounded.some_beat bounded.few_beats bounded.some_den ground.long bounded.ranges.some_unit h) d.chords in
      let eight : 122880000 * x.width * (l + o) ≤ 122880000 * x.width * 8 = mul-le-mul_left (122880000 * x.width) (omega (arith, few, out, few_out)) in
      let heavy : r * c ≤ r * 1000000 = mul-le-mul_left r light in
      let area : r * 1 ≤ r * w = mul-le-mul_left r some in
      let sum : r * (c + (0 + charges d.book (y ∷ []) d.chords)) ≡ r * c + r * charges d.book (y ∷ []) d.chords = grind arith in
      let cost' : r * n ≡ r * (c + (0 + charges d.book (y ∷ []) d.chords)) = ap (λ m. r * m) cost in
      omega (arith, charged, eight, heavy, area, sum, cost', wide)

  -- a tree by its rule, where the bound holds of what stands below it
  one_tree : (o : Option Rule) (p : ℕ) (q : ℕ × ℕ) (k : Forest) (a b n : ℕ) → 1 ≤ q.0 → suits o q ≡ true → are_trees d.book.rules (children_of o q.0) k ≡ true → weight_of o ≤ 1000000
      → FitsAt d.book.resolution d.bar d.chords d.before p (leaves_at o p q.0 ++ leaves d.book.rules p (children_of o q.0) k) a b
      → n ≡ weight_of o + (weights d.book (preorder k) + charges d.book (in_bar d.bar (leaves_at o p q.0 ++ leaves d.book.rules p (children_of o q.0) k)) d.chords)
      → ((qs : List (ℕ × ℕ)) → AreWide qs → are_trees d.book.rules qs k ≡ true → FitsAt d.book.resolution d.bar d.chords d.before p (leaves d.book.rules p qs k) a b
      → d.book.resolution * forest_cost d p qs k + 1000000 * (d.book.resolution * length qs) ≤ 2000000 * (d.book.resolution * sizes qs) + 983040000 * sizes qs)
      → d.book.resolution * n + 1000000 * d.book.resolution ≤ 2000000 * (d.book.resolution * q.0) + 983040000 * q.0
  one_tree None p q k a b n some suit trees light fits cost below = absurd (cc)
  one_tree (Some rule) p q k a b n some suit trees light fits cost below = by_body rule.body (and_right (rule.lhs == q.1) _ suit) trees fits cost
    where
      bare : (x : BarLeaf) → x.width ≡ q.0 → are_trees d.book.rules [] k ≡ true → FitsAt d.book.resolution d.bar d.chords d.before p (x ∷ leaves d.book.rules p [] k) a b
          → n ≡ rule.weight + (weights d.book (preorder k) + charges d.book (in_bar d.bar (x ∷ leaves d.book.rules p [] k)) d.chords)
          → d.book.resolution * n + 1000000 * d.book.resolution ≤ 2000000 * (d.book.resolution * q.0) + 983040000 * q.0
      bare x wide = go k
        where
          go : (k : Forest) → are_trees d.book.rules [] k ≡ true → FitsAt d.book.resolution d.bar d.chords d.before p (x ∷ leaves d.book.rules p [] k) a b
              → n ≡ rule.weight + (weights d.book (preorder k) + charges d.book (in_bar d.bar (x ∷ leaves d.book.rules p [] k)) d.chords)
              → d.book.resolution * n + 1000000 * d.book.resolution ≤ 2000000 * (d.book.resolution * q.0) + 983040000 * q.0
          go none h fits cost = one_leaf p q.0 x a b rule.weight n wide some light cost fits
          go (more r f rest) h fits cost = absurd (cc)

      cut : (qs : List (ℕ × ℕ)) → AreWide qs → sizes qs ≡ q.0 → 2 ≤ length qs → are_trees d.book.rules qs k ≡ true → FitsAt d.book.resolution d.bar d.chords d.before p (leaves d.book.rules p qs k) a b
          → n ≡ rule.weight + forest_cost d p qs k
          → d.book.resolution * n + 1000000 * d.book.resolution ≤ 2000000 * (d.book.resolution * q.0) + 983040000 * q.0
      cut qs wide whole many trees fits cost =
          let r : ℕ = d.book.resolution in
          let ih = below qs wide trees fits in
          let heavy : r * rule.weight ≤ r * 1000000 = mul-le-mul_left r light in
          let two : r * 2 ≤ r * length qs = mul-le-mul_left r many in
          let sum : r * (rule.weight + forest_cost d p qs k) ≡ r * rule.weight + r * forest_cost d p qs k = grind arith in
          let cost' : r * n ≡ r * (rule.weight + forest_cost d p qs k) = ap (λ m. r * m) cost in
          let area : r * sizes qs ≡ r * q.0 = ap (λ m. r * m) whole in
          omega (arith, ih, heavy, two, sum, cost', area, whole)

      by_body : (body : Body) → can_cut body q.0 ≡ true → are_trees d.book.rules (children body q.0) k ≡ true
          → FitsAt d.book.resolution d.bar d.chords d.before p (leaf_of body p q.0 ++ leaves d.book.rules p (children body q.0) k) a b
          → n ≡ rule.weight + (weights d.book (preorder k) + charges d.book (in_bar d.bar (leaf_of body p q.0 ++ leaves d.book.rules p (children body q.0) k)) d.chords)
          → d.book.resolution * n + 1000000 * d.book.resolution ≤ 2000000 * (d.book.resolution * q.0) + 983040000 * q.0
      by_body body cuts trees fits cost = elim (cuts_or_ends body) [
        | inl t ↦
            let P : List BarLeaf → Type 0 = λ l. FitsAt d.book.resolution d.bar d.chords d.before p (l ++ leaves d.book.rules p (children body q.0) k) a b in
            let Q : List BarLeaf → Type 0 = λ l. n ≡ rule.weight + (weights d.book (preorder k) + charges d.book (in_bar d.bar (l ++ leaves d.book.rules p (children body q.0) k)) d.chords) in
            let none_here : leaf_of body p q.0 ≡ [] = ap (λ o. leaf_of_ending o p q.0) t.2 in
            let whole = children-whole body p q.0 some cuts none_here in
            cut (children body q.0) (below-wide q.0 (children body q.0) (children-below body q.0 some cuts)) whole.0 whole.1 trees (subst P none_here fits) (subst Q none_here cost)
        | inr t ↦
            let nothing : children body q.0 ≡ [] = ap (λ c. parts_of_cut c q.0) t.1 in
            let P : List BarLeaf → List (ℕ × ℕ) → Type 0 = λ l qs. FitsAt d.book.resolution d.bar d.chords d.before p (l ++ leaves d.book.rules p qs k) a b in
            let Q : List BarLeaf → List (ℕ × ℕ) → Type 0 = λ l qs. n ≡ rule.weight + (weights d.book (preorder k) + charges d.book (in_bar d.bar (l ++ leaves d.book.rules p qs k)) d.chords) in
            let own : leaf_of body p q.0 ≡ record { ending = t.0; place = p; width = q.0 } ∷ [] = ap (λ o. leaf_of_ending o p q.0) t.2 in
            bare (record { ending = t.0; place = p; width = q.0 }) refl (subst (λ qs. are_trees d.book.rules qs k ≡ true) nothing trees)
            (subst₂ P own nothing fits) (subst₂ Q own nothing cost)
      ]

  weight-light : (r : ℕ) → weight_of (slice_get d.book.rules r) ≤ 1000000
  weight-light r = go (slice_get d.book.rules r) refl
    where
      go : (o : Option Rule) → slice_get d.book.rules r ≡ o → weight_of o ≤ 1000000
      go None e = omega arith
      go (Some rule) e =
          let P : Rule → Type 0 = λ x. x.weight ≤ 1000000 in
          subst P (get_or_from_slice_get d.book.rules r rule rule e) (bounded.ranges.weights r rule (slice_get_within d.book.rules r rule e))

  forest-bound : (f : Forest) (p : ℕ) (qs : List (ℕ × ℕ)) (a b : ℕ) → AreWide qs → are_trees d.book.rules qs f ≡ true
      → FitsAt d.book.resolution d.bar d.chords d.before p (leaves d.book.rules p qs f) a b
      → d.book.resolution * forest_cost d p qs f + 1000000 * (d.book.resolution * length qs) ≤ 2000000 * (d.book.resolution * sizes qs) + 983040000 * sizes qs
  forest-bound none p [] a b wide h fits =
      let nothing : forest_cost d p [] none ≡ 0 = no_charges d.chords in
      let cost : d.book.resolution * forest_cost d p [] none ≡ d.book.resolution * 0 = ap (λ m. d.book.resolution * m) nothing in
      let zero_r : d.book.resolution * 0 ≡ 0 = grind arith in
      omega (arith, cost, zero_r)
    where
      no_charges : (cs : List Inner) → 0 + charges d.book [] cs ≡ 0
      no_charges [] = refl
      no_charges (c ∷ cs) = let next = sum_by-cons (λ c. charge d.book [] c.onset) c cs in omega (arith, next, no_charges cs)
  forest-bound none p (q ∷ qs) a b wide h fits = absurd (cc)
  forest-bound (more r k rest) p [] a b wide h fits = absurd (cc)
  forest-bound (more r k rest) p (q ∷ qs) a b wide h fits =
      let u : ℕ = d.book.resolution in
      let own = both (suits (slice_get d.book.rules r) q) _ h in
      let below = both (are_trees d.book.rules (children_of (slice_get d.book.rules r) q.0) k) _ own.1 in
      let fit = trees-split d.book.rules d.book.resolution d.bar d.chords d.bar.start d.before ground.rise ground.long p q qs r k rest wide.0 h a b fits in
      let n : ℕ = forest_cost d p (q ∷ []) (more r k none) in
      let one = one_tree (slice_get d.book.rules r) p q k a fit.0 n wide.0 own.0 below.0 (weight-light r) fit.1 (top_cost d p q r k) (λ qs w h g. forest-bound k p qs a fit.0 w h g) in
      let others = forest-bound rest (p + q.0) qs fit.0 b wide.1 below.1 fit.2 in
      let cost : u * forest_cost d p (q ∷ qs) (more r k rest) ≡ u * (n + forest_cost d (p + q.0) qs rest) = ap (λ m. u * m) (forest_cost-first d ground p q qs wide r k rest h) in
      let sum : u * (n + forest_cost d (p + q.0) qs rest) ≡ u * n + u * forest_cost d (p + q.0) qs rest = grind arith in
      let many : u * suc (length qs) ≡ u + u * length qs = grind arith in
      let area : u * (q.0 + sizes qs) ≡ u * q.0 + u * sizes qs = grind arith in
      omega (arith, one, others, cost, sum, many, area)

  -- so trees within the bar cost less than 3,000,000,000
  pub stands-cheap : (shapes : Option Shape) (p : ℕ) (qs : List (ℕ × ℕ)) (f : Forest) (a b : ℕ) → AreWide qs → sizes qs ≤ d.book.resolution → StandsInBar d shapes p qs f a b
      → forest_cost d p qs f ≤ 3000000000
  stands-cheap shapes p qs f a b wide within stands =
      let r : ℕ = d.book.resolution in
      let h = forest-bound f p qs a b wide stands.trees stands.fits in
      let area : r * sizes qs ≤ r * r = mul-le-mul_left r within in
      let whole : r * r ≤ r * 960 = mul-le-mul_left r bounded.ranges.few_units in
      let all : r * forest_cost d p qs f ≤ r * 3000000000 = omega (arith, h, area, whole, within) in
      by_units r (forest_cost d p qs f) bounded.ranges.some_unit all
    where
      by_units : (r a : ℕ) → 1 ≤ r → r * a ≤ r * 3000000000 → a ≤ 3000000000
      by_units r a low h = elim (cases_lt 3000000000 a) [
        | inr le ↦ le
        | inl above ↦
            let next : r * 3000000001 ≤ r * a = mul-le-mul_left r (omega (arith, above)) in
            absurd (omega (arith, next, h, low))
      ]
