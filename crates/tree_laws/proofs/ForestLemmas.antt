-- Forests: their costs add up, their lists parse, and the least of trees side by side are made of the least.
use Rattle.std.proofs.Common.{◌≡◌, ◌≢◌, ◌==◌, ℕ, ◌+◌, ◌≤◌, ◌<◌, Bool, true, false, not, ◌&&◌, List, [], ◌∷◌, ◌++◌, refl, sym, ap, ◌∙◌, subst, arith, append-nil, append_assoc}
use Rattle.std.specs.Prelude.{Option, Some, None, slice_get, if◌then◌else◌}
use Rattle.std.proofs.lemmas.List.Sums.{sum_by-append, sum_by-cons}
use Rattle.rhythm_base.specs.Cost.{charge, charge_in, charges, weight_of, weights}
use Rattle.rhythm_base.specs.Forest.{Forest, none, more, preorder}
use Rattle.rhythm_base.specs.Leaves.{Leaf, in_bar, lies_in, looks}
use Rattle.rhythm_base.specs.declared.inner.Inner.{Inner}
use Rattle.rhythm_base.specs.Shape.{Shape, end, part}
use Rattle.std.proofs.lemmas.Bool.Decides.{nat_tests}
use Rattle.rhythm_base.specs.Ranked.{Key, Keys, is_before, key_sum, plus, product_of, table_of, times}
use Rattle.rhythm_base.specs.Grammar.{Grammar}
use Rattle.rhythm_base.specs.Bodies.{sizes}
use Rattle.rhythm_base.specs.Trees.{are_shaped, are_trees, children_of, leaves, leaves_at, suits}
use Rattle.tree_laws.specs.Forests.{AreWide, Ground, IsForestKey, IsGround, first_shape, forest_cost, has_shapes, other_shapes}
use Rattle.tree_laws.specs.Places.{FitsAt, reach}
use Rattle.tree_laws.specs.Runs.{IsLine}
use Rattle.path_laws.proofs.Alike.{parse}
use Rattle.tree_laws.proofs.Bars.{SideBySide, leaves-fill}
use Rattle.path_laws.proofs.KeyOrders.{Parse, keys_total}
use Rattle.rhythm_base.proofs.TotalOrders.{itself}
use Rattle.path_laws.specs.Rows.{IsOneBelow}
use Rattle.path_laws.proofs.LeastKeys.{Both, IsLeast, IsLeast-same, joined-least, pick-least}
use Rattle.tree_laws.proofs.Parsing.{one_parse}
use Rattle.tree_laws.proofs.Places.{trees-join, trees-split, in_bar-append}
use Rattle.path_laws.proofs.Products.{RowsApart, RowsParse, product_is}
use Rattle.tree_laws.proofs.Ranks.{both, preorders-cmp}
use Rattle.tree_laws.proofs.Reading.{reaches}
use Rattle.tree_laws.proofs.Ticks.{parts-line}

-- ---- costs add up

-- an onset that the start of a line does not reach lies in none of its leaves
charge-none : (g : Grammar) (s z : ℕ → Bool) (xs : List Leaf) (t : ℕ) → IsLine (looks g.resolution) s xs z → s t ≡ false → charge g xs t ≡ 0
charge-none g s z [] t line h = refl
charge-none g s z (x ∷ xs) t line h =
    let out : lies_in g.resolution x t ≡ false = line.1.inside t ∙ ap (λ b. b && not (line.0 t)) h in
    rw out (charge-none g line.0 z xs t line.2 (later (line.0 t) refl))
  where
    later : (b : Bool) → line.0 t ≡ b → b ≡ false
    later true e = let on : s t ≡ true = line.1.back t e in absurd (cc)
    later false e = refl

charge-beside : (g : Grammar) (s m z : ℕ → Bool) (xs ys : List Leaf) (t : ℕ) → IsLine (looks g.resolution) s xs m → IsLine (looks g.resolution) m ys z
    → charge g (xs ++ ys) t ≡ charge g xs t + charge g ys t
charge-beside g s m z [] ys t one two = omega arith
charge-beside g s m z (x ∷ xs) ys t one two = go (lies_in g.resolution x t) refl (charge-beside g one.0 m z xs ys t one.2 two)
  where
    outside : (a b : Bool) → true ≡ a && not b → b ≡ false
    outside true true h = absurd (cc)
    outside true false h = refl
    outside false b h = absurd (cc)

    before : (b : Bool) → m t ≡ b → one.0 t ≡ false → b ≡ false
    before true e h = let on : one.0 t ≡ true = reaches (looks g.resolution) one.0 m xs one.2 t e in absurd (cc)
    before false e h = refl

    go : (b : Bool) → lies_in g.resolution x t ≡ b → charge g (xs ++ ys) t ≡ charge g xs t + charge g ys t
        → (if b then charge_in g x t else charge g (xs ++ ys) t) ≡ (if b then charge_in g x t else charge g xs t) + charge g ys t
    go true e ih =
        let past : one.0 t ≡ false = outside (s t) (one.0 t) (sym e ∙ one.1.inside t) in
        let nothing = charge-none g m z ys t two (before (m t) refl past) in
        omega (arith, nothing)
    go false e ih = ih

charges-beside : (g : Grammar) (s m z : ℕ → Bool) (xs ys : List Leaf) (cs : List Inner) → IsLine (looks g.resolution) s xs m → IsLine (looks g.resolution) m ys z
    → charges g (xs ++ ys) cs ≡ charges g xs cs + charges g ys cs
charges-beside g s m z xs ys [] one two = refl
charges-beside g s m z xs ys (c ∷ cs) one two =
    let all = sum_by-cons (λ c. charge g (xs ++ ys) c.onset) c cs in
    let left = sum_by-cons (λ c. charge g xs c.onset) c cs in
    let right = sum_by-cons (λ c. charge g ys c.onset) c cs in
    let here = charge-beside g s m z xs ys c.onset one two in
    let ih = charges-beside g s m z xs ys cs one two in
    omega (arith, all, left, right, here, ih)

-- ---- the first tree and the others

weights-append : (g : Grammar) (xs ys : List ℕ) → weights g (xs ++ ys) ≡ weights g xs + weights g ys
weights-append g xs ys = sum_by-append (λ r. weight_of (slice_get g.rules r)) xs ys

preorder-first : (r : ℕ) (k rest : Forest) → preorder (more r k rest) ≡ preorder (more r k none) ++ preorder rest
preorder-first r k rest = ap (λ l. l ++ preorder rest) (sym (append-nil (r ∷ preorder k)))

three : (a b c : Bool) → a ≡ true → b ≡ true → c ≡ true → a && (b && c) ≡ true
three true true true p q r = refl
three true true false p q r = r
three true false c p q r = q
three false b c p q r = p

two_and : (a b : Bool) → a ≡ true → b ≡ true → a && b ≡ true
two_and true true p q = refl
two_and true false p q = q
two_and false b p q = p

first_trees : (d : Ground) (q : ℕ × ℕ) (qs : List (ℕ × ℕ)) (r : ℕ) (k rest : Forest) → are_trees d.book.rules (q ∷ qs) (more r k rest) ≡ true
    → (are_trees d.book.rules (q ∷ []) (more r k none) ≡ true) × (are_trees d.book.rules qs rest ≡ true)
first_trees d q qs r k rest h =
    let p = both (suits (slice_get d.book.rules r) q) _ h in
    let p' = both (are_trees d.book.rules (children_of (slice_get d.book.rules r) q.0) k) _ p.1 in
    (three _ _ _ p.0 p'.0 refl, p'.1)

join_trees : (d : Ground) (q : ℕ × ℕ) (qs : List (ℕ × ℕ)) (r : ℕ) (k rest : Forest) → are_trees d.book.rules (q ∷ []) (more r k none) ≡ true → are_trees d.book.rules qs rest ≡ true
    → are_trees d.book.rules (q ∷ qs) (more r k rest) ≡ true
join_trees d q qs r k rest h g =
    let p = both (suits (slice_get d.book.rules r) q) _ h in
    let p' = both (are_trees d.book.rules (children_of (slice_get d.book.rules r) q.0) k) _ p.1 in
    three _ _ _ p.0 p'.0 g

split_shapes : (s : Option Shape) (r : ℕ) (k rest : Forest) → has_shapes s (more r k rest) ≡ true → (has_shapes (first_shape s) (more r k none) ≡ true) × (has_shapes (other_shapes s) rest ≡ true)
split_shapes None r k rest h = (refl, refl)
split_shapes (Some end) r k rest h = absurd (cc)
split_shapes (Some (part x xs)) r k rest h =
    let p = both (are_shaped x k) _ h in (two_and _ _ p.0 refl, p.1)

join_shapes : (s : Option Shape) (r : ℕ) (k rest : Forest) → has_shapes (first_shape s) (more r k none) ≡ true → has_shapes (other_shapes s) rest ≡ true → has_shapes s (more r k rest) ≡ true
join_shapes None r k rest h g = refl
join_shapes (Some end) r k rest h g = absurd (cc)
join_shapes (Some (part x xs)) r k rest h g =
    let p = both (are_shaped x k) _ h in two_and _ _ p.0 g

module _ (d : Ground) (ground : IsGround d) (p : ℕ) (q : ℕ × ℕ) (qs : List (ℕ × ℕ)) (wide : AreWide (q ∷ qs)) where
  first_leaves : (r : ℕ) (k : Forest) → leaves d.book.rules p (q ∷ []) (more r k none) ≡ leaves_at (slice_get d.book.rules r) p q.0 ++ leaves d.book.rules p (children_of (slice_get d.book.rules r) q.0) k
  first_leaves r k = ap (λ l. leaves_at (slice_get d.book.rules r) p q.0 ++ l) (append-nil (leaves d.book.rules p (children_of (slice_get d.book.rules r) q.0) k))

  all_leaves : (r : ℕ) (k rest : Forest) → leaves d.book.rules p (q ∷ qs) (more r k rest) ≡ leaves d.book.rules p (q ∷ []) (more r k none) ++ leaves d.book.rules (p + q.0) qs rest
  all_leaves r k rest =
      sym (append_assoc (leaves_at (slice_get d.book.rules r) p q.0) (leaves d.book.rules p (children_of (slice_get d.book.rules r) q.0) k) (leaves d.book.rules (p + q.0) qs rest))
      ∙ ap (λ l. l ++ leaves d.book.rules (p + q.0) qs rest) (sym (first_leaves r k))

  -- the cost of trees side by side is the sum
  pub forest_cost-first : (r : ℕ) (k rest : Forest) → are_trees d.book.rules (q ∷ qs) (more r k rest) ≡ true
      → forest_cost d p (q ∷ qs) (more r k rest) ≡ forest_cost d p (q ∷ []) (more r k none) + forest_cost d (p + q.0) qs rest
  forest_cost-first r k rest h =
      let parts = first_trees d q qs r k rest h in
      let fill = leaves-fill d.book.rules (more r k none) p (q ∷ []) (wide.0, _) parts.0 in
      let others = leaves-fill d.book.rules rest (p + q.0) qs wide.1 parts.1 in
      let one_width : p + (q.0 + 0) ≡ p + q.0 = omega arith in
      let own : SideBySide p (leaves d.book.rules p (q ∷ []) (more r k none)) (p + q.0) = subst (SideBySide p (leaves d.book.rules p (q ∷ []) (more r k none))) one_width fill in
      let line = parts-line d.book.resolution d.bar p (p + q.0) (leaves d.book.rules p (q ∷ []) (more r k none)) ground.long own in
      let after = parts-line d.book.resolution d.bar (p + q.0) (p + q.0 + sizes qs) (leaves d.book.rules (p + q.0) qs rest) ground.long others in
      let sums = charges-beside d.book (reach d.book.resolution d.bar p) (reach d.book.resolution d.bar (p + q.0)) (reach d.book.resolution d.bar (p + q.0 + sizes qs)) (in_bar d.bar (leaves d.book.rules p (q ∷ []) (more r k none))) (in_bar d.bar (leaves d.book.rules (p + q.0) qs rest)) d.chords line after in
      let rules_sum = ap (weights d.book) (preorder-first r k rest) ∙ weights-append d.book (preorder (more r k none)) (preorder rest) in
      let onset_sum = ap (λ l. charges d.book (in_bar d.bar l) d.chords) (all_leaves r k rest) ∙ ap (λ l. charges d.book l d.chords) (in_bar-append d.bar (leaves d.book.rules p (q ∷ []) (more r k none)) (leaves d.book.rules (p + q.0) qs rest)) ∙ sums in
      omega (arith, rules_sum, onset_sum)

  -- a key of trees side by side is one of the first tree and one of the others, with a count between them
  pub split_key : (s : Option Shape) (f t : ℕ) (key : Key) → IsForestKey d s p (q ∷ qs) f t key
      → IsOneBelow (λ n. Both (IsForestKey d (first_shape s) p (q ∷ []) f n) (IsForestKey d (other_shapes s) (p + q.0) qs n t)) 5 key
  split_key s f t key (none, stands, is) = let no : false ≡ true = stands.trees in absurd (cc)
  split_key s f t key (more r k rest, stands, is) =
      let parts = first_trees d q qs r k rest stands.trees in
      let shapes = split_shapes s r k rest stands.shaped in
      let fit = trees-split d.book.rules d.book.resolution d.bar d.chords d.bar.start d.before ground.rise ground.long p q qs r k rest wide.0 stands.trees f t stands.fits in
      let x : Key = (forest_cost d p (q ∷ []) (more r k none), preorder (more r k none)) in
      let y : Key = (forest_cost d (p + q.0) qs rest, preorder rest) in
      let few : fit.0 < 5 = let h : fit.0 ≤ 4 = fit.1.few_to in omega arith in (
        fit.0,
        few,
        (
          x,
          y,
          (more r k none, record { trees = parts.0; shaped = shapes.0; fits = subst (λ l. FitsAt d.book.resolution d.bar d.chords d.before p l f fit.0) (sym (first_leaves r k)) fit.1 }, refl),
          (rest, record { trees = parts.1; shaped = shapes.1; fits = fit.2 }, refl),
          is ∙ (λ i. (forest_cost-first r k rest stands.trees i, preorder-first r k rest i)),
        ),
      )

  pub join_key : (s : Option Shape) (f t : ℕ) (key : Key)
      → IsOneBelow (λ n. Both (IsForestKey d (first_shape s) p (q ∷ []) f n) (IsForestKey d (other_shapes s) (p + q.0) qs n t)) 5 key → IsForestKey d s p (q ∷ qs) f t key
  join_key s f t key (n, low, (x, y, (none, stands, is), others, sum)) = let no : false ≡ true = stands.trees in absurd (cc)
  join_key s f t key (n, low, (x, y, (more r k (more r' k' rest'), stands, is), others, sum)) =
      let no : false ≡ true = (first_trees d q [] r k (more r' k' rest') stands.trees).1 in absurd (cc)
  join_key s f t key (n, low, (x, y, (more r k none, stands, is), (rest, after, is'), sum)) =
      let trees = join_trees d q qs r k rest stands.trees after.trees in
      let own = subst (λ l. FitsAt d.book.resolution d.bar d.chords d.before p l f n) (first_leaves r k) stands.fits in (
        more r k rest,
        record {
          trees = trees;
          shaped = join_shapes s r k rest stands.shaped after.shaped;
          fits = trees-join d.book.rules d.book.resolution d.bar d.chords d.bar.start d.before ground.rise ground.long p q qs r k rest wide.0 trees f n t own after.fits;
        },
        sum ∙ (λ i. plus (is i) (is' i)) ∙ sym (λ i. (forest_cost-first r k rest trees i, preorder-first r k rest i)),
      )

-- ---- lists parse, and rows are apart

pub keys-parse : (d : Ground) (s : Option Shape) (p : ℕ) (qs : List (ℕ × ℕ)) (a b c : ℕ) (x y : Key) → IsForestKey d s p qs a b x → IsForestKey d s p qs a c y → Parse x.1 y.1
keys-parse d s p qs a b c x y (f, stands, is) (g, stands', is') u v =
    let P : List ℕ → List ℕ → Type 0 = λ l m. Parse l m in
    subst (λ l. Parse l y.1) (sym (ap (λ (z : Key). z.1) is)) (subst (λ m. Parse (preorder f) m) (sym (ap (λ (z : Key). z.1) is')) (λ u v. preorders-cmp d.book.rules qs f g u v stands.trees stands'.trees)) u v

-- keys of one row with one list have one count carried out
pub keys-apart : (d : Ground) (s : Option Shape) (p : ℕ) (qs : List (ℕ × ℕ)) (a b c : ℕ) (x y : Key) → IsForestKey d s p qs a b x → IsForestKey d s p qs a c y → x.1 ≡ y.1 → b ≡ c
keys-apart d s p qs a b c x y (f, stands, is) (g, stands', is') e =
    let lists : preorder f ++ [] ≡ preorder g ++ [] = ap (λ l. l ++ []) (sym (ap (λ (z : Key). z.1) is) ∙ e ∙ ap (λ (z : Key). z.1) is') in
    let same : f ≡ g = (one_parse d.book.rules qs f g [] [] stands.trees stands'.trees lists).0 in
    let out : b ≡ c = sym stands.fits.leave ∙ (let P : Forest → Type 0 = λ h. FitsAt d.book.resolution d.bar d.chords d.before p (leaves d.book.rules p qs h) a c in (subst P (sym same) stands'.fits).leave) in
    out

-- ---- the least of trees side by side

-- what is the least of a set is in it
in_set : (S : Key → Type 0) (o : Option Key) (x : Key) → IsLeast S o → o ≡ Some x → S x
in_set S None x h e = absurd (cc)
in_set S (Some y) x h e = let same : y ≡ x = cc in subst S same h.0

module _ (d : Ground) (s : Option Shape) (p : ℕ) (qs : List (ℕ × ℕ)) (K : Keys) (least : (a b : ℕ) → a < 5 → b < 5 → IsLeast (IsForestKey d s p qs a b) (K a b)) where
  pub least-rows_parse : RowsParse K
  least-rows_parse a b c la lb lc = go (K a b) (K a c) refl refl
    where
      go : (o u : Option Key) → K a b ≡ o → K a c ≡ u → parse o u
      go None u e f = tt
      go (Some x) None e f = tt
      go (Some x) (Some y) e f = keys-parse d s p qs a b c x y (in_set (IsForestKey d s p qs a b) (K a b) x (least a b la lb) e) (in_set (IsForestKey d s p qs a c) (K a c) y (least a c la lc) f)

  pub least-rows_apart : RowsApart K
  least-rows_apart a la b c lb lc x y e f same =
      keys-apart d s p qs a b c x y (in_set (IsForestKey d s p qs a b) (K a b) x (least a b la lb) e) (in_set (IsForestKey d s p qs a c) (K a c) y (least a c la lc) f) same

module _ (d : Ground) (ground : IsGround d) (p : ℕ) (q : ℕ × ℕ) (qs : List (ℕ × ℕ)) (wide : AreWide (q ∷ qs)) (s : Option Shape) (K L : Keys)
    (first : (a n : ℕ) → a < 5 → n < 5 → IsLeast (IsForestKey d (first_shape s) p (q ∷ []) a n) (K a n))
    (others : (n b : ℕ) → n < 5 → b < 5 → IsLeast (IsForestKey d (other_shapes s) (p + q.0) qs n b) (L n b)) where
  -- it is the least, over the count between them, of the least of the first tree and the least of the others
  pub beside-least : (a b : ℕ) → a < 5 → b < 5 → IsLeast (IsForestKey d s p (q ∷ qs) a b) (times K L a b)
  beside-least a b la lb =
      IsLeast-same (IsOneBelow (λ n. Both (IsForestKey d (first_shape s) p (q ∷ []) a n) (IsForestKey d (other_shapes s) (p + q.0) qs n b)) 5) (IsForestKey d s p (q ∷ qs) a b) (times K L a b)
      (λ k h. join_key d ground p q qs wide s a b k h) (λ k h. split_key d ground p q qs wide s a b k h)
      (pick-least (λ n. Both (IsForestKey d (first_shape s) p (q ∷ []) a n) (IsForestKey d (other_shapes s) (p + q.0) qs n b)) (λ n. key_sum (K a n) (L n b)) 5
      (λ n low. joined-least (IsForestKey d (first_shape s) p (q ∷ []) a n) (IsForestKey d (other_shapes s) (p + q.0) qs n b) (K a n) (L n b)
      (λ k l h g. keys-parse d (first_shape s) p (q ∷ []) a n n k l h g) (first a n la low) (others n b low lb)))

  -- and its table of costs and ranks is the product of the two tables: comparing ranks of one row is comparing rule lists
  pub beside-table : table_of (times K L) ≡ product_of (table_of K) (table_of L)
  beside-table = product_is K L (least-rows_parse d (first_shape s) p (q ∷ []) K first) (least-rows_apart d (first_shape s) p (q ∷ []) K first)

-- no trees: nothing is carried on but what was carried in
pub nothing-least : (d : Ground) (p a b : ℕ) → a < 5 → IsLeast (IsForestKey d None p [] a b) (if a == b then Some (0, []) else None)
nothing-least d p a b la = go (a == b) (grind (arith, nat_tests)) (grind (arith, nat_tests))
  where
    few : (x : ℕ) → x < 5 → x ≤ 4
    few x h = omega arith

    go : (t : Bool) → (t ≡ true → a ≡ b) → (t ≡ false → a ≢ b) → IsLeast (IsForestKey d None p [] a b) (if t then Some (0, []) else None)
    go true f g =
        ((none, record { trees = refl; shaped = refl; fits = record { runs = refl; leave = f refl; few_from = few a la; few_to = subst (λ n. n ≤ 4) (f refl) (few a la) } }, (λ i. (nothing_charged d.book d.chords i, []))), first)
      where
        nothing_charged : (g : Grammar) (cs : List Inner) → 0 ≡ weights g [] + charges g [] cs
        nothing_charged g [] = refl
        nothing_charged g (c ∷ cs) = let more = sum_by-cons (λ c. charge g [] c.onset) c cs in let ih = nothing_charged g cs in omega (arith, more, ih)

        first : (k : Key) → IsForestKey d None p [] a b k → is_before k (0, []) ≡ false
        first k (none, stands, is) = ap (λ q. is_before q (0, [])) (is ∙ (λ i. (sym (nothing_charged d.book d.chords) i, []))) ∙ itself keys_total (0, [])
        first k (more r x rest, stands, is) = let no : false ≡ true = stands.trees in absurd (cc)
    go false f g = never
      where
        never : (k : Key) → IsForestKey d None p [] a b k → ⊥
        never k (none, stands, is) = g refl stands.fits.leave
        never k (more r x rest, stands, is) = let no : false ≡ true = stands.trees in absurd (cc)
