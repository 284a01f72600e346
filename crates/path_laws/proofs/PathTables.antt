-- Least paths, tables of lists of matrices, and the laws of products.
use Rattle.std.proofs.Common.{◌≡◌, ◌≢◌, ℕ, zero, suc, ◌+◌, ◌<◌, ◌==◌, Bool, true, false, List, [], ◌∷◌, ◌++◌, length, refl, sym, subst, ap, ◌∙◌, arith, append_assoc, append-nil}
use Rattle.std.proofs.lemmas.List.{length-append}
use Rattle.std.specs.Prelude.{Option, Some, None, if◌then◌else◌}
use Rattle.std.proofs.lemmas.Bool.Decides.{nat_tests}
use Rattle.rhythm_base.specs.declared.best.Best.{Best}
use Rattle.rhythm_base.specs.Ranked.{CarryMatrix, at, Key, Keys, is_before, plus, key_sum, key_of, one, times, least_key, is_under, ranked, count_under, table_of, table, middle_of, product_of, identity_entries}
use Rattle.rhythm_base.specs.Lists.{last_end}
use Rattle.rhythm_base.specs.Paths.{path_key, AreCarried, IsPathKey, IsLeastPath, IsRanked}
use Rattle.path_laws.proofs.KeyOrders.{keys_total, long_parse}
use Rattle.rhythm_base.proofs.TotalOrders.{itself}
use Rattle.path_laws.specs.Rows.{IsOneBelow}
use Rattle.path_laws.proofs.LeastKeys.{IsLeast, IsLeast-one, IsLeast-same, Both, joined-least, pick-least}
use Rattle.rhythm_base.proofs.LastEnds.{last_end-append}
use Rattle.path_laws.proofs.Alike.{parse, ranked_same, via}
use Rattle.path_laws.proofs.Picks.{times_via}
use Rattle.path_laws.proofs.Products.{grid_at, grid_same, RowsParse, RowsApart, table_alike, table_apart, middle_is, product_is}
use Rattle.path_laws.specs.Tables.{AllRanked}

-- ---- the keys of the paths from a count to a count

abbrev pub Is : Option Key → Key → Type 0
Is o k = o ≡ Some k

pub Is-least : (o : Option Key) → IsLeast (Is o) o
Is-least None = λ k e. absurd (cc)
Is-least (Some x) = (refl, first)
  where
    first : (k : Key) → Some x ≡ Some k → is_before k x ≡ false
    first k e =
        let s : x ≡ k = cc in
        subst (λ q. is_before q x ≡ false) s (itself keys_total x)

abbrev pub Reach : List CarryMatrix → ℕ → ℕ → Key → Type 0
Reach [] a b k = (a ≡ b) × (k ≡ (0, []))
Reach (e ∷ es) a b k = IsOneBelow (λ m. Both (Is (one e a m)) (Reach es m b)) 5 k

one_key : (o : Option Best) (k : Key) → key_of o ≡ Some k → length k.1 ≡ 1
one_key None k e = absurd (cc)
one_key (Some x) k e =
    let s : (x.cost, x.rank ∷ []) ≡ k = cc in
    subst (λ (q : Key). length q.1 ≡ 1) s refl

pub keys-least : (es : List CarryMatrix) (a b : ℕ) → IsLeast (Reach es a b) (least_key es a b)
keys-least [] a b = go (a == b) (grind (arith, nat_tests)) (grind (arith, nat_tests))
  where
    go : (t : Bool) → (t ≡ true → a ≡ b) → (t ≡ false → a ≢ b) → IsLeast (Reach [] a b) (if t then Some (0, []) else None)
    go true f g = ((f refl, refl), λ k r. ap (λ q. is_before q (0, [])) r.1)
    go false f g = λ k r. g refl r.0
keys-least (e ∷ es) a b =
    pick-least (λ m. Both (Is (one e a m)) (Reach es m b)) (λ m. key_sum (one e a m) (least_key es m b)) 5
    (λ m low. joined-least (Is (one e a m)) (Reach es m b) (one e a m) (least_key es m b) (λ k l i j. long_parse k.1 l.1 (one_key (at e a m) k i ∙ sym (one_key (at e a m) l j))) (Is-least (one e a m)) (keys-least es m b))

plus_long : (x y k : Key) (n m : ℕ) → k ≡ plus x y → length x.1 ≡ n → length y.1 ≡ m → length k.1 ≡ n + m
plus_long x y k n m e lx ly = ap (λ (q : Key). length q.1) e ∙ length-append x.1 y.1 ∙ (λ i. lx i + ly i)

Reach-long : (es : List CarryMatrix) (a b : ℕ) (k : Key) → Reach es a b k → length k.1 ≡ length es
Reach-long [] a b k r = ap (λ (q : Key). length q.1) r.1
Reach-long (e ∷ es) a b k r =
    let long = plus_long r.2.0 r.2.1 k 1 (length es) r.2.4 (one_key (at e a r.0) r.2.0 r.2.2) (Reach-long es r.0 b r.2.1 r.2.3) in
    omega (arith, long)

keys_Reach : (es : List CarryMatrix) (a b : ℕ) (k : Key) → least_key es a b ≡ Some k → Reach es a b k
keys_Reach es a b k e = (subst (IsLeast (Reach es a b)) e (keys-least es a b)).0

pub keys_parse : (es : List CarryMatrix) → RowsParse (least_key es)
keys_parse es a b c la lb lc = go (least_key es a b) (least_key es a c) refl refl
  where
    go : (o u : Option Key) → least_key es a b ≡ o → least_key es a c ≡ u → parse o u
    go None u e f = tt
    go (Some k) None e f = tt
    go (Some k) (Some l) e f = long_parse k.1 l.1 (Reach-long es a b k (keys_Reach es a b k e) ∙ sym (Reach-long es a c l (keys_Reach es a c l f)))

-- paths along the first and then along the second
pub plus_assoc : (x y z : Key) → plus x (plus y z) ≡ plus (plus x y) z
plus_assoc x y z =
    let costs : x.0 + (y.0 + z.0) ≡ (x.0 + y.0) + z.0 = omega arith in
    let lists : x.1 ++ (y.1 ++ z.1) ≡ (x.1 ++ y.1) ++ z.1 = sym (append_assoc x.1 y.1 z.1) in
    λ i. (costs i, lists i)

pub plus_nil : (x : Key) → x ≡ plus (0, []) x
plus_nil x =
    let costs : x.0 ≡ 0 + x.0 = omega arith in
    λ i. (costs i, x.1)

Reach-split : (es fs : List CarryMatrix) (a b : ℕ) (k : Key) → a < 5 → Reach (es ++ fs) a b k → IsOneBelow (λ m. Both (Reach es a m) (Reach fs m b)) 5 k
Reach-split [] fs a b k low r = (a, low, ((0, []), k, (refl, refl), r, plus_nil k))
Reach-split (e ∷ es) fs a b k low r =
    let q = Reach-split es fs r.0 b r.2.1 r.1 r.2.3 in
    let front : Reach (e ∷ es) a q.0 (plus r.2.0 q.2.0) = (r.0, r.1, (r.2.0, q.2.0, r.2.2, q.2.2, refl)) in
    (q.0, q.1, (plus r.2.0 q.2.0, q.2.1, front, q.2.3, r.2.4 ∙ ap (plus r.2.0) q.2.4 ∙ plus_assoc r.2.0 q.2.0 q.2.1))

Reach-join : (es fs : List CarryMatrix) (a b m : ℕ) (x y : Key) → Reach es a m x → Reach fs m b y → Reach (es ++ fs) a b (plus x y)
Reach-join [] fs a b m x y r q =
    let same_key : y ≡ plus x y = plus_nil y ∙ ap (λ z. plus z y) (sym r.1) in
    subst (Reach fs a b) same_key (subst (λ c. Reach fs c b y) (sym r.0) q)
Reach-join (e ∷ es) fs a b m x y r q =
    (r.0, r.1, (r.2.0, plus r.2.1 y, r.2.2, Reach-join es fs r.0 b m r.2.1 y r.2.3 q, ap (λ z. plus z y) r.2.4 ∙ sym (plus_assoc r.2.0 r.2.1 y)))

times-least : (es fs : List CarryMatrix) (a b : ℕ) → IsLeast (IsOneBelow (λ m. Both (Reach es a m) (Reach fs m b)) 5) (times (least_key es) (least_key fs) a b)
times-least es fs a b =
    pick-least (λ m. Both (Reach es a m) (Reach fs m b)) (λ m. key_sum (least_key es a m) (least_key fs m b)) 5
    (λ m low. joined-least (Reach es a m) (Reach fs m b) (least_key es a m) (least_key fs m b) (λ k l r q. long_parse k.1 l.1 (Reach-long es a m k r ∙ sym (Reach-long es a m l q))) (keys-least es a m) (keys-least fs m b))

pub keys_append : (es fs : List CarryMatrix) (a b : ℕ) → a < 5 → least_key (es ++ fs) a b ≡ times (least_key es) (least_key fs) a b
keys_append es fs a b low =
    IsLeast-one (Reach (es ++ fs) a b) _ _ (keys-least (es ++ fs) a b)
    (IsLeast-same (IsOneBelow (λ m. Both (Reach es a m) (Reach fs m b)) 5) (Reach (es ++ fs) a b) _
    (λ k r. subst (Reach (es ++ fs) a b) (sym r.2.4) (Reach-join es fs a b r.0 r.2.0 r.2.1 r.2.2 r.2.3))
    (λ k r. Reach-split es fs a b k low r) (times-least es fs a b))

-- ---- no two paths from one count have one list

one_rank : (o : Option Best) (k : Key) → key_of o ≡ Some k → (e : Best) × (o ≡ Some e) × (k.1 ≡ e.rank ∷ [])
one_rank None k e = absurd (cc)
one_rank (Some x) k e =
    let s : k ≡ (x.cost, x.rank ∷ []) = cc in
    (x, refl, ap (λ (q : Key). q.1) s)

pub one_apart : (e : CarryMatrix) → IsRanked e → RowsApart (one e)
one_apart e h a la b c lb lc x y ex ey s =
    let p = one_rank (at e a b) x ex in
    let q = one_rank (at e a c) y ey in
    let heads : p.0.rank ∷ [] ≡ q.0.rank ∷ [] = sym p.2 ∙ s ∙ q.2 in
    h.apart a b c la lb lc p.0 q.0 p.1 q.1 (cc)

Reach-apart : (es : List CarryMatrix) (a b c : ℕ) (x y : Key) → AllRanked es → a < 5 → Reach es a b x → Reach es a c y → x.1 ≡ y.1 → b ≡ c
Reach-apart [] a b c x y h la r q s = sym r.0 ∙ q.0
Reach-apart (e ∷ es) a b c x y h la r q s =
    let p1 = one_rank (at e a r.0) r.2.0 r.2.2 in
    let p2 = one_rank (at e a q.0) q.2.0 q.2.2 in
    let list1 : x.1 ≡ p1.0.rank ∷ r.2.1.1 = ap (λ (z : Key). z.1) r.2.4 ∙ ap (λ l. l ++ r.2.1.1) p1.2 in
    let list2 : y.1 ≡ p2.0.rank ∷ q.2.1.1 = ap (λ (z : Key). z.1) q.2.4 ∙ ap (λ l. l ++ q.2.1.1) p2.2 in
    let both : p1.0.rank ∷ r.2.1.1 ≡ p2.0.rank ∷ q.2.1.1 = sym list1 ∙ s ∙ list2 in
    let heads : p1.0.rank ≡ p2.0.rank = cc in
    let tails : r.2.1.1 ≡ q.2.1.1 = cc in
    let place : r.0 ≡ q.0 = h.0.apart a r.0 q.0 la r.1 q.1 p1.0 p2.0 p1.1 p2.1 heads in
    Reach-apart es r.0 b c r.2.1 q.2.1 h.1 r.1 r.2.3 (subst (λ m. Reach es m c q.2.1) (sym place) q.2.3) tails

pub keys_apart : (es : List CarryMatrix) → AllRanked es → RowsApart (least_key es)
keys_apart es h a la b c lb lc x y ex ey s = Reach-apart es a b c x y h la (keys_Reach es a b x ex) (keys_Reach es a c y ey) s

-- ---- the table of a concatenation is the product of the tables

times_table : (es fs : List CarryMatrix) → table_of (least_key (es ++ fs)) ≡ table_of (times (least_key es) (least_key fs))
times_table es fs = grid_same _ _ (λ a b la lb. λ i. ranked (λ c. keys_append es fs a c la i) (keys_append es fs a b la i))

pub table_append : (es fs : List CarryMatrix) → AllRanked es → table (es ++ fs) ≡ product_of (table es) (table fs)
unfolding table
table_append es fs h = times_table es fs ∙ product_is (least_key es) (least_key fs) (keys_parse es) (keys_apart es h)

-- ---- the table of one matrix, and of none

-- one entry of a well-formed matrix is its own rank
kept_at : (e : CarryMatrix) → IsRanked e → (a b : ℕ) → a < 5 → b < 5 → (o : Option Best) → at e a b ≡ o → ranked (one e a) (key_of o) ≡ o
kept_at e h a b la lb None s = refl
kept_at e h a b la lb (Some x) s =
    let rank : count_under (one e a) (x.rank ∷ []) 5 ≡ x.rank = sym (h.counts a b la lb x s) in
    λ i. Some (record { cost = x.cost; rank = rank i })

pub table_of_one : (e : CarryMatrix) → IsRanked e → table_of (one e) ≡ e
table_of_one e h = grid_same _ (at e) (λ a b la lb. kept_at e h a b la lb (at e a b) refl) ∙ sym h.shape

keys_single : (e : CarryMatrix) (a b : ℕ) → a < 5 → b < 5 → least_key (e ∷ []) a b ≡ one e a b
keys_single e a b la lb =
    IsLeast-one (Reach (e ∷ []) a b) _ _ (keys-least (e ∷ []) a b)
    (IsLeast-same (Is (one e a b)) (Reach (e ∷ []) a b) (one e a b)
    (λ k i. (b, lb, (k, (0, []), i, (refl, refl), nil_right k)))
    (λ k r. subst (λ m. one e a m ≡ Some k) r.2.3.0 (r.2.2 ∙ ap Some (nil_right r.2.0 ∙ ap (plus r.2.0) (sym r.2.3.1) ∙ sym r.2.4)))
    (Is-least (one e a b)))
  where
    nil_right : (k : Key) → k ≡ plus k (0, [])
    nil_right k =
        let costs : k.0 ≡ k.0 + 0 = omega arith in
        let lists : k.1 ≡ k.1 ++ [] = sym (append-nil k.1) in
        λ i. (costs i, lists i)

counts_rows : (r s : ℕ → Option Key) (x : List ℕ) (n : ℕ) → ((m : ℕ) → m < n → r m ≡ s m) → count_under r x n ≡ count_under s x n
counts_rows r s x zero h = refl
counts_rows r s x (suc n) h = λ i. (if is_under (h n (omega arith) i) x then 1 else 0) + counts_rows r s x n (λ m low. h m (omega arith)) i

pub ranked_rows : (r s : ℕ → Option Key) (o u : Option Key) → ((m : ℕ) → m < 5 → r m ≡ s m) → o ≡ u → ranked r o ≡ ranked s u
ranked_rows r s o u h e = go o ∙ ap (ranked s) e
  where
    go : (o : Option Key) → ranked r o ≡ ranked s o
    go None = refl
    go (Some x) = λ i. Some (record { cost = x.0; rank = counts_rows r s x.1 5 h i })

row_same : (k l : Keys) → ((a b : ℕ) → a < 5 → b < 5 → k a b ≡ l a b) → table_of k ≡ table_of l
row_same k l h = grid_same _ _ (λ a b la lb. ranked_rows (k a) (l a) (k a b) (l a b) (λ m low. h a m la low) (h a b la lb))

pub table_single : (e : CarryMatrix) → IsRanked e → table (e ∷ []) ≡ e
unfolding table
table_single e h = row_same (least_key (e ∷ [])) (one e) (λ a b la lb. keys_single e a b la lb) ∙ table_of_one e h

pub table_nil : table [] ≡ identity_entries
unfolding table identity_entries
table_nil = refl

-- ---- ranks stay well formed

rank_is : (row : ℕ → Option Key) (e : Best) → ranked row (key_of (Some e)) ≡ Some e → e.rank ≡ count_under row (e.rank ∷ []) 5
rank_is row e s =
    let same_best : record { cost = e.cost; rank = count_under row (e.rank ∷ []) 5 } ≡ e = cc in
    sym (ap (λ (x : Best). x.rank) same_best)

pub table_of_ranked : (k : Keys) → RowsApart k → IsRanked (table_of k)
table_of_ranked k h = record {
  shape = grid_same _ _ (λ a b la lb. sym (grid_at (λ a b. ranked (k a) (k a b)) a b la lb));
  counts = λ a b la lb e s.
      let again : at (table_of k) a b ≡ ranked (one (table_of k) a) (one (table_of k) a b) = grid_at (λ a b. ranked (k a) (k a b)) a b la lb ∙ ranked_same (k a) (one (table_of k) a) (table_alike k a la) b lb in
      rank_is (one (table_of k) a) e (ap (λ o. ranked (one (table_of k) a) (key_of o)) (sym s) ∙ sym again ∙ s);
  apart = λ a b c la lb lc e f s t r. table_apart k h a la b c lb lc (e.cost, e.rank ∷ []) (f.cost, f.rank ∷ []) (ap key_of s) (ap key_of t) (ap (λ q. q ∷ []) r);
}

pub table_ranked : (es : List CarryMatrix) → AllRanked es → IsRanked (table es)
unfolding table
table_ranked es h = table_of_ranked (least_key es) (keys_apart es h)

pub two : (a b : CarryMatrix) → IsRanked a → IsRanked b → table (a ∷ b ∷ []) ≡ product_of a b
two a b ha hb = table_append (a ∷ []) (b ∷ []) (ha, tt) ∙ (λ i. product_of (table_single a ha i) (table_single b hb i))

pub product_ranked : (a b : CarryMatrix) → IsRanked a → IsRanked b → IsRanked (product_of a b)
product_ranked a b ha hb = subst IsRanked (two a b ha hb) (table_ranked (a ∷ b ∷ []) (ha, (hb, tt)))

pub identity_ranked : IsRanked identity_entries
identity_ranked = subst IsRanked table_nil (table_ranked [] tt)

-- ---- products associate, and the identity is neutral on both sides

pub product_assoc : (a b c : CarryMatrix) → IsRanked a → IsRanked b → IsRanked c → product_of (product_of a b) c ≡ product_of a (product_of b c)
product_assoc a b c ha hb hc =
    sym (table_append (a ∷ b ∷ []) (c ∷ []) (ha, (hb, tt)) ∙ (λ i. product_of (two a b ha hb i) (table_single c hc i)))
    ∙ table_append (a ∷ []) (b ∷ c ∷ []) (ha, tt) ∙ (λ i. product_of (table_single a ha i) (two b c hb hc i))

pub identity_left : (a : CarryMatrix) → IsRanked a → product_of identity_entries a ≡ a
identity_left a ha = (λ i. product_of (sym table_nil i) (sym (table_single a ha) i)) ∙ sym (table_append [] (a ∷ []) tt) ∙ table_single a ha

pub identity_right : (a : CarryMatrix) → IsRanked a → product_of a identity_entries ≡ a
identity_right a ha = (λ i. product_of (sym (table_single a ha) i) (sym table_nil i)) ∙ sym (table_append (a ∷ []) [] (ha, tt)) ∙ table_single a ha

-- ---- the count in the middle lies on the least path

pub middle_on_path : (es fs : List CarryMatrix) (a b : ℕ) → AllRanked es → a < 5 → b < 5
    → least_key (es ++ fs) a b ≡ via (least_key es a) (least_key fs) b (middle_of (table es) (table fs) a b)
unfolding table middle_of
middle_on_path es fs a b h la lb =
    keys_append es fs a b la ∙ times_via (least_key es) (least_key fs) a b
    ∙ ap (via (least_key es a) (least_key fs) b) (middle_is (least_key es) (least_key fs) (keys_parse es) (keys_apart es h) a b la lb)

-- ---- paths as lists of counts

to_path : (es : List CarryMatrix) (a b : ℕ) (k : Key) → Reach es a b k → IsPathKey es a b k
to_path [] a b k r = ([], tt, r.0, ap Some (sym r.1))
to_path (e ∷ es) a b k r =
    let q = to_path es r.0 b r.2.1 r.2.3 in
    (r.0 ∷ q.0, (r.1, q.1), q.2, (λ i. key_sum (r.2.2 i) (q.3 i)) ∙ ap Some (sym r.2.4))

pub joined_parts : (o u : Option Key) (k : Key) → key_sum o u ≡ Some k → (x : Key) × (y : Key) × (o ≡ Some x) × (u ≡ Some y) × (k ≡ plus x y)
joined_parts None u k e = absurd (cc)
joined_parts (Some x) None k e = absurd (cc)
joined_parts (Some x) (Some y) k e =
    let s : plus x y ≡ k = cc in
    (x, y, refl, refl, sym s)

of_path : (es : List CarryMatrix) (a b : ℕ) (k : Key) (p : List ℕ) → AreCarried p → last_end a p ≡ b → path_key es a p ≡ Some k → Reach es a b k
of_path [] a b k [] c t e =
    let s : (0, []) ≡ k = cc in
    (t, sym s)
of_path [] a b k (m ∷ p) c t e = absurd (cc)
of_path (f ∷ es) a b k [] c t e = absurd (cc)
of_path (f ∷ es) a b k (m ∷ p) c t e =
    let q = joined_parts (one f a m) (path_key es m p) k e in
    (m, c.0, (q.0, q.1, q.2, of_path es m b q.1 p c.1 t q.3, q.4))

-- the key is that of a path, and none of a path is lower; none where there is no path
pub keys-least_path : (es : List CarryMatrix) (a b : ℕ) → IsLeast (IsPathKey es a b) (least_key es a b)
keys-least_path es a b = IsLeast-same (Reach es a b) (IsPathKey es a b) (least_key es a b) (λ k r. to_path es a b k r) (λ k r. of_path es a b k r.0 r.1 r.2 r.3) (keys-least es a b)

-- the least key is the key of a least path
pub least_path_key : (es : List CarryMatrix) (a b : ℕ) (p : List ℕ) (k : Key) → IsLeastPath es a b p k → least_key es a b ≡ Some k
least_path_key es a b p k h = IsLeast-one (IsPathKey es a b) (least_key es a b) (Some k) (keys-least_path es a b) ((p, h.counts, h.ends, h.key), h.least)

pub no_path_before : (es : List CarryMatrix) (a b : ℕ) (k : Key) → least_key es a b ≡ Some k → (x : Key) → IsPathKey es a b x → is_before x k ≡ false
no_path_before es a b k e = (subst (IsLeast (IsPathKey es a b)) e (keys-least_path es a b)).1

path_append : (es fs : List CarryMatrix) (a : ℕ) (p q : List ℕ) (x : Key) → path_key es a p ≡ Some x → path_key (es ++ fs) a (p ++ q) ≡ key_sum (Some x) (path_key fs (last_end a p) q)
path_append [] fs a [] q x e =
    let s : (0, []) ≡ x = cc in
    (go (path_key fs a q)) ∙ ap (λ z. key_sum (Some z) (path_key fs a q)) s
  where
    go : (o : Option Key) → o ≡ key_sum (Some (0, [])) o
    go None = refl
    go (Some y) = ap Some (plus_nil y)
path_append [] fs a (m ∷ p) q x e = absurd (cc)
path_append (f ∷ es) fs a [] q x e = absurd (cc)
path_append (f ∷ es) fs a (m ∷ p) q x e =
    let r = joined_parts (one f a m) (path_key es m p) x e in
    (λ i. key_sum (r.2 i) (path_append es fs m p q r.1 r.3 i)) ∙ go (path_key fs (last_end m p) q) ∙ ap (λ z. key_sum (Some z) (path_key fs (last_end m p) q)) (sym r.4)
  where
    go : (o : Option Key) → key_sum (Some (joined_parts (one f a m) (path_key es m p) x e).0) (key_sum (Some (joined_parts (one f a m) (path_key es m p) x e).1) o)
        ≡ key_sum (Some (plus (joined_parts (one f a m) (path_key es m p) x e).0 (joined_parts (one f a m) (path_key es m p) x e).1)) o
    go None = refl
    go (Some y) = ap Some (plus_assoc (joined_parts (one f a m) (path_key es m p) x e).0 (joined_parts (one f a m) (path_key es m p) x e).1 y)

counts_append : (p q : List ℕ) → AreCarried p → AreCarried q → AreCarried (p ++ q)
counts_append [] q h k = k
counts_append (m ∷ p) q h k = (h.0, counts_append p q h.1 k)

-- two least paths that meet at the count in the middle are a least path
pub least_append : (es fs : List CarryMatrix) (a m b : ℕ) (p q : List ℕ) (x y : Key) → AllRanked es → a < 5 → b < 5 → middle_of (table es) (table fs) a b ≡ Some m
    → IsLeastPath es a m p x → IsLeastPath fs m b q y → IsLeastPath (es ++ fs) a b (p ++ q) (plus x y)
least_append es fs a m b p q x y h la lb mid r s = record {
  counts = counts_append p q r.counts s.counts;
  ends = last_end-append a p q ∙ ap (λ c. last_end c q) r.ends ∙ s.ends;
  key = path_append es fs a p q x r.key ∙ ap (λ c. key_sum (Some x) (path_key fs c q)) r.ends ∙ ap (key_sum (Some x)) s.key;
  least = no_path_before (es ++ fs) a b (plus x y)
      (middle_on_path es fs a b h la lb ∙ ap (via (least_key es a) (least_key fs) b) mid ∙ (λ i. key_sum (least_path_key es a m p x r i) (least_path_key fs m b q y s i)));
}
