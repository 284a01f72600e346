-- Rows of trees side by side, made from left to right.
use Rattle.std.proofs.Common.{◌≡◌, ℕ, ◌<◌, ◌≤◌, ◌+◌, ◌==◌, true, false, List, [], ◌∷◌, ◌++◌, refl, sym, ap, ◌∙◌, subst, arith}
use Rattle.std.specs.Prelude.{Option, Some, None, if◌then◌else◌}
use Rattle.std.proofs.lemmas.Bool.Decides.{nat_tests}
use Rattle.std.proofs.lemmas.List.Sums.{sum_by-cons}
use Rattle.rhythm_base.specs.Bodies.{sizes}
use Rattle.rhythm_base.specs.Cost.{charge, charges}
use Rattle.rhythm_base.specs.Forest.{none, more}
use Rattle.rhythm_base.specs.Grammar.{Grammar}
use Rattle.rhythm_base.specs.declared.inner.Inner.{Inner}
use Rattle.rhythm_base.specs.Ranked.{Key, Keys, key_sum, plus}
use Rattle.tree_laws.specs.Forests.{AreWide, Ground, IsForestKey, IsGround, forest_cost}
use Rattle.path_laws.specs.Rows.{IsOneBelow}
use Rattle.path_laws.specs.Tables.{IsLeastKey}
use Rattle.path_laws.proofs.Alike.{AreApart, parse}
use Rattle.tree_laws.proofs.ForestLemmas.{join_key, keys-apart, keys-parse, nothing-least, split_key}
use Rattle.path_laws.proofs.LeastKeys.{Both, IsLeast-one, IsLeast-same, joined-least, pick-least, in_set}
use Rattle.row_laws.specs.Rows.{AreLeastRow, row_times}
use Rattle.row_laws.proofs.Bounds.{IsBounded, stands-cheap}
use Rattle.path_laws.proofs.PathTables.{plus_assoc, plus_nil}

-- ---- the last tree and those before it

wide-first : (qs : List (ℕ × ℕ)) (q : ℕ × ℕ) → AreWide (qs ++ q ∷ []) → AreWide qs
wide-first [] q h = tt
wide-first (r ∷ qs) q h = (h.0, wide-first qs q h.1)

-- no trees carry on what is carried in
pub no_trees : (d : Ground) (p a : ℕ) → a < 5 → IsForestKey d None p [] a a (0, [])
no_trees d p a low = (subst (λ t. IsLeastKey (IsForestKey d None p [] a a) (if t then Some (0, []) else None)) same (nothing-least d p a a low)).0
  where
    same : (a == a) ≡ true
    same = grind (arith, nat_tests)

no_charges : (g : Grammar) (cs : List Inner) → charges g [] cs ≡ 0
no_charges g [] = refl
no_charges g (c ∷ cs) = let more = sum_by-cons (λ c. charge g [] c.onset) c cs in let ih = no_charges g cs in omega (arith, more, ih)

none_alone : (d : Ground) (p f n : ℕ) (x : Key) → IsForestKey d None p [] f n x → (f ≡ n) × (x ≡ (0, []))
none_alone d p f n x (none, stands, is) =
    let nothing : forest_cost d p [] none ≡ 0 = let bare = no_charges d.book d.chords in omega (arith, bare) in
    (stands.fits.leave, is ∙ (λ i. (nothing i, [])))
none_alone d p f n x (more r g rest, stands, is) = let no : false ≡ true = stands.trees in absurd (cc)

module _ (d : Ground) (ground : IsGround d) where
  -- a key of trees side by side is one of the first trees and one of the last, with a count between them
  pub split_last : (qs : List (ℕ × ℕ)) (q : ℕ × ℕ) (p f t : ℕ) (key : Key) → AreWide (qs ++ q ∷ []) → IsForestKey d None p (qs ++ q ∷ []) f t key
      → IsOneBelow (λ n. Both (IsForestKey d None p qs f n) (IsForestKey d None (p + sizes qs) (q ∷ []) n t)) 5 key
  split_last [] q p f t key wide h =
      let few : f ≤ 4 = h.1.fits.few_from in
      let low : f < 5 = omega (arith, few) in
      let here : p ≡ p + 0 = omega arith in
      (f, low, ((0, []), key, no_trees d p f low, subst (λ p. IsForestKey d None p (q ∷ []) f t key) here h, plus_nil key))
  split_last (r ∷ qs) q p f t key wide h =
      let one = split_key d ground p r (qs ++ q ∷ []) wide None f t key h in
      let both = one.2 in
      let two = split_last qs q (p + r.0) one.0 t both.1 wide.1 both.3 in
      let parts = two.2 in
      let there : p + r.0 + sizes qs ≡ p + (r.0 + sizes qs) = omega arith in (
        two.0,
        two.1,
        (
          plus both.0 parts.0,
          parts.1,
          join_key d ground p r qs (wide.0, wide-first qs q wide.1) None f two.0 (plus both.0 parts.0) (one.0, one.1, (both.0, parts.0, both.2, parts.2, refl)),
          subst (λ p. IsForestKey d None p (q ∷ []) two.0 t parts.1) there parts.3,
          both.4 ∙ ap (plus both.0) parts.4 ∙ plus_assoc both.0 parts.0 parts.1,
        ),
      )

  pub join_last : (qs : List (ℕ × ℕ)) (q : ℕ × ℕ) (p f t : ℕ) (key : Key) → AreWide (qs ++ q ∷ [])
      → IsOneBelow (λ n. Both (IsForestKey d None p qs f n) (IsForestKey d None (p + sizes qs) (q ∷ []) n t)) 5 key → IsForestKey d None p (qs ++ q ∷ []) f t key
  join_last [] q p f t key wide (n, low, (x, y, first, last, sum)) =
      let bare = none_alone d p f n x first in
      let there : p + 0 ≡ p = omega arith in
      let own : IsForestKey d None p (q ∷ []) n t y = subst (λ p. IsForestKey d None p (q ∷ []) n t y) there last in
      let same : y ≡ key = plus_nil y ∙ sym (sum ∙ ap (λ k. plus k y) bare.1) in
      subst (λ f. IsForestKey d None p (q ∷ []) f t key) (sym bare.0) (subst (IsForestKey d None p (q ∷ []) n t) same own)
  join_last (r ∷ qs) q p f t key wide (n, low, (x, y, first, last, sum)) =
      let one = split_key d ground p r qs (wide.0, wide-first qs q wide.1) None f n x first in
      let both = one.2 in
      let there : p + (r.0 + sizes qs) ≡ p + r.0 + sizes qs = omega arith in
      let others : IsForestKey d None (p + r.0) (qs ++ q ∷ []) one.0 t (plus both.1 y)
      = join_last qs q (p + r.0) one.0 t (plus both.1 y) wide.1 (n, low, (both.1, y, both.3, subst (λ p. IsForestKey d None p (q ∷ []) n t y) there last, refl)) in
      join_key d ground p r (qs ++ q ∷ []) wide None f t key
      (one.0, one.1, (both.0, plus both.1 y, both.2, others, sum ∙ ap (λ k. plus k y) both.4 ∙ sym (plus_assoc both.0 both.1 y)))

-- ---- rows

-- no trees carry on what is carried in
pub row-none : (d : Ground) (p a : ℕ) → a < 5 → AreLeastRow d p [] a (λ b. if a == b then Some (0, []) else None)
row-none d p a low = λ b lb. nothing-least d p a b low

-- the tree that comes next, over each count that the trees before it carry out
pub row-next : (d : Ground) → IsGround d → (p a : ℕ) → a < 5 → (qs : List (ℕ × ℕ)) (q : ℕ × ℕ) → AreWide (qs ++ q ∷ []) → (row : ℕ → Option Key) (next : Keys) → AreLeastRow d p qs a row
    → ((m : ℕ) (k : Key) → m < 5 → row m ≡ Some k → AreLeastRow d (p + sizes qs) (q ∷ []) m (next m)) → AreLeastRow d p (qs ++ q ∷ []) a (row_times row next)
row-next d ground p a low qs q wide row next least others b lb =
    IsLeast-same (IsOneBelow S 5) (IsForestKey d None p (qs ++ q ∷ []) a b) (row_times row next b)
    (λ k h. join_last d ground qs q p a b k wide h) (λ k h. split_last d ground qs q p a b k wide h)
    (pick-least S (λ n. key_sum (row n) (next n b)) 5 (λ n ln. go n ln (row n) refl (least n ln)))
  where
    S : ℕ → Key → Type 0
    S n = Both (IsForestKey d None p qs a n) (IsForestKey d None (p + sizes qs) (q ∷ []) n b)

    go : (n : ℕ) → n < 5 → (o : Option Key) → row n ≡ o → IsLeastKey (IsForestKey d None p qs a n) o → IsLeastKey (S n) (key_sum o (next n b))
    go n ln None e h = λ k b. h b.0 b.2
    go n ln (Some x) e h =
        joined-least (IsForestKey d None p qs a n) (IsForestKey d None (p + sizes qs) (q ∷ []) n b) (Some x) (next n b)
        (λ k l s t. keys-parse d None p qs a n n k l s t) h (others n x ln e b lb)

pub row-parse : (d : Ground) (p a : ℕ) (qs : List (ℕ × ℕ)) (row : ℕ → Option Key) → AreLeastRow d p qs a row → (b c : ℕ) → b < 5 → c < 5 → parse (row b) (row c)
row-parse d p a qs row least b c lb lc = go (row b) (row c) refl refl
  where
    go : (o u : Option Key) → row b ≡ o → row c ≡ u → parse o u
    go None u e f = tt
    go (Some x) None e f = tt
    go (Some x) (Some y) e f = keys-parse d None p qs a b c x y (in_set (IsForestKey d None p qs a b) (row b) x (least b lb) e) (in_set (IsForestKey d None p qs a c) (row c) y (least c lc) f)

pub row-apart : (d : Ground) (p a : ℕ) (qs : List (ℕ × ℕ)) (row : ℕ → Option Key) → AreLeastRow d p qs a row → AreApart row
row-apart d p a qs row least b c lb lc x y e f same =
    keys-apart d None p qs a b c x y (in_set (IsForestKey d None p qs a b) (row b) x (least b lb) e) (in_set (IsForestKey d None p qs a c) (row c) y (least c lc) f) same

-- no least tree costs much
pub row-cheap : (d : Ground) → IsGround d → IsBounded d → (p a : ℕ) (qs : List (ℕ × ℕ)) → AreWide qs → sizes qs ≤ d.book.resolution → (row : ℕ → Option Key) → AreLeastRow d p qs a row
    → (b : ℕ) (k : Key) → b < 5 → row b ≡ Some k → k.0 ≤ 3000000000
row-cheap d ground bounded p a qs wide within row least b k lb e =
    let one = in_set (IsForestKey d None p qs a b) (row b) k (least b lb) e in
    let cost : k.0 ≡ forest_cost d p qs one.0 = ap (λ (k : Key). k.0) one.2 in
    let low = stands-cheap d ground bounded None p qs one.0 a b wide within one.1 in
    omega (arith, cost, low)

-- there is one row
pub row-one : (d : Ground) (p a : ℕ) (qs : List (ℕ × ℕ)) (row other : ℕ → Option Key) → AreLeastRow d p qs a row → AreLeastRow d p qs a other → (b : ℕ) → b < 5 → row b ≡ other b
row-one d p a qs row other h g b lb = IsLeast-one (IsForestKey d None p qs a b) (row b) (other b) (h b lb) (g b lb)
