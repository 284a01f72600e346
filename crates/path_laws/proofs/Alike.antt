-- Rows of keys that are ordered alike: they have the same ranks, and so have their products.
use Rattle.std.proofs.Common.{◌≡◌, ℕ, zero, suc, ◌+◌, ◌<◌, ◌≤◌, inl, inr, Bool, true, false, List, refl, sym, subst, ap, ◌∙◌, arith}
use Rattle.std.specs.Prelude.{Option, Some, None, if◌then◌else◌}
use Rattle.std.specs.Ordering.{nat_cmp, ordering_then, is_lt, is_gt}
use Rattle.std.specs.Cmp.{nat_cmp_is}
use Rattle.std.specs.Cmp.Lexicographic.{nat_list_cmp_total}
use Rattle.std.specs.declared.cmp.Ordering.{Ordering}
use Rattle.std.specs.declared.cmp.Ordering.TheVariants.{Less, Equal, Greater}
use Rattle.rhythm_base.specs.Ranked.{Key, Keys, list_cmp, plus, key_sum, key_of, is_under, count_under, ranked}
use Rattle.path_laws.specs.Rows.{AreAlike, lists_cmp, same}
use Rattle.rhythm_base.proofs.TotalOrders.{flip, itself, above, before_above, list_equal}
use Rattle.path_laws.proofs.KeyOrders.{Parse}
use Rattle.path_laws.proofs.LeastKeys.{last}

-- ---- the same ranks

under_same : (p q : Option Key) (x y : Key) → same p q → lists_cmp p (Some x) ≡ lists_cmp q (Some y) → is_under p x.1 ≡ is_under q y.1
under_same None None x y h e = refl
under_same None (Some v) x y h e = absurd h
under_same (Some u) None x y h e = absurd h
under_same (Some u) (Some v) x y h e = ap is_lt e

count_same : (r s : ℕ → Option Key) (x y : Key) (n : ℕ) → ((m : ℕ) → m < n → same (r m) (s m)) → ((m : ℕ) → m < n → lists_cmp (r m) (Some x) ≡ lists_cmp (s m) (Some y))
    → count_under r x.1 n ≡ count_under s y.1 n
count_same r s x y zero h e = refl
count_same r s x y (suc n) h e =
    let here : is_under (r n) x.1 ≡ is_under (s n) y.1 = under_same (r n) (s n) x y (h n (omega arith)) (e n (omega arith)) in
    let before : count_under r x.1 n ≡ count_under s y.1 n = count_same r s x y n (λ m low. h m (omega arith)) (λ m low. e m (omega arith)) in
    λ i. (if here i then 1 else 0) + before i

ranked_of : (r s : ℕ → Option Key) (p q : Option Key) → same p q → ((m : ℕ) → m < 5 → same (r m) (s m)) → ((m : ℕ) → m < 5 → lists_cmp (r m) p ≡ lists_cmp (s m) q)
    → ranked r p ≡ ranked s q
ranked_of r s None None h k e = refl
ranked_of r s None (Some y) h k e = absurd h
ranked_of r s (Some x) None h k e = absurd h
ranked_of r s (Some x) (Some y) h k e =
    let all : count_under r x.1 5 ≡ count_under s y.1 5 = count_same r s x y 5 k e in
    λ i. Some (record { cost = h i; rank = all i })

pub ranked_same : (r s : ℕ → Option Key) → AreAlike r s → (b : ℕ) → b < 5 → ranked r (r b) ≡ ranked s (s b)
ranked_same r s h b low = ranked_of r s (r b) (s b) (h.costs b low) h.costs (λ m k. h.order m b k low)

-- ---- a row is alike to its ranks

one_more : (p q : Bool) (n m : ℕ) → (p ≡ true → q ≡ true) → n ≤ m → (if p then 1 else 0) + n ≤ (if q then 1 else 0) + m
one_more true true n m f h = omega (arith, h)
one_more true false n m f h = let g : false ≡ true = f refl in absurd (cc)
one_more false true n m f h = omega (arith, h)
one_more false false n m f h = omega (arith, h)

strictly_more : (p q : Bool) (n m : ℕ) → p ≡ false → q ≡ true → n ≤ m → (if p then 1 else 0) + n < (if q then 1 else 0) + m
strictly_more true q n m e f h = absurd (cc)
strictly_more false true n m e f h = omega (arith, h)
strictly_more false false n m e f h = absurd (cc)

lower_under : (p : Option Key) (x y : List ℕ) → is_lt (list_cmp x y) ≡ true → is_under p x ≡ true → is_under p y ≡ true
lower_under None x y h k = k
lower_under (Some v) x y h k = go (is_lt (list_cmp v.1 y)) refl
  where
    go : (b : Bool) → is_lt (list_cmp v.1 y) ≡ b → b ≡ true
    go true e = refl
    go false e =
        let back : is_lt (list_cmp v.1 x) ≡ false = above nat_list_cmp_total v.1 y x e (before_above nat_list_cmp_total x y h) in
        sym back ∙ k

count_upto : (r : ℕ → Option Key) (x y : List ℕ) (n : ℕ) → is_lt (list_cmp x y) ≡ true → count_under r x n ≤ count_under r y n
count_upto r x y zero h = omega arith
count_upto r x y (suc n) h = one_more (is_under (r n) x) (is_under (r n) y) _ _ (lower_under (r n) x y h) (count_upto r x y n h)

count_below : (r : ℕ → Option Key) (x y : List ℕ) (n b : ℕ) → b < n → is_lt (list_cmp x y) ≡ true → is_under (r b) x ≡ false → is_under (r b) y ≡ true → count_under r x n < count_under r y n
count_below r x y zero b low h e f = absurd (omega arith)
count_below r x y (suc n) b low h e f = elim (last b n low) [
  | inl less ↦
      let before : count_under r x n < count_under r y n = count_below r x y n b less h e f in
      let next = one_more (is_under (r n) x) (is_under (r n) y) (suc (count_under r x n)) (count_under r y n) (lower_under (r n) x y h) (omega (arith, before)) in
      omega (arith, next)
  | inr equal ↦
      strictly_more (is_under (r n) x) (is_under (r n) y) _ _ (subst (λ m. is_under (r m) x ≡ false) equal e) (subst (λ m. is_under (r m) y ≡ true) equal f) (count_upto r x y n h)
]

under_itself : (p : Option Key) (x : Key) → p ≡ Some x → is_under p x.1 ≡ false
under_itself p x e = subst (λ q. is_under q x.1 ≡ false) (sym e) (itself nat_list_cmp_total x.1)

under_there : (p : Option Key) (x : Key) (y : List ℕ) → p ≡ Some x → is_lt (list_cmp x.1 y) ≡ true → is_under p y ≡ true
under_there p x y e h = subst (λ q. is_under q y ≡ true) (sym e) h

ranks_below : (r : ℕ → Option Key) (b : ℕ) (x : Key) (y : List ℕ) → b < 5 → r b ≡ Some x → is_lt (list_cmp x.1 y) ≡ true → count_under r x.1 5 < count_under r y 5
ranks_below r b x y low e h = count_below r x.1 y 5 b low h (under_itself (r b) x e) (under_there (r b) x y e h)

turned : (x y : List ℕ) → list_cmp x y ≡ Greater → is_lt (list_cmp y x) ≡ true
turned x y e = sym (flip nat_list_cmp_total y x) ∙ ap is_gt e

ranks_cmp : (r : ℕ → Option Key) (b c : ℕ) (x y : Key) → b < 5 → c < 5 → r b ≡ Some x → r c ≡ Some y
    → list_cmp x.1 y.1 ≡ ordering_then (nat_cmp (count_under r x.1 5) (count_under r y.1 5)) Equal
ranks_cmp r b c x y lb lc eb ec = go (list_cmp x.1 y.1) refl
  where
    go : (o : Ordering) → list_cmp x.1 y.1 ≡ o → o ≡ ordering_then (nat_cmp (count_under r x.1 5) (count_under r y.1 5)) Equal
    go Less e = ap (λ q. ordering_then q Equal) (nat_cmp_is (count_under r x.1 5) (count_under r y.1 5) Less (ranks_below r b x y.1 lb eb (ap is_lt e)))
    go Equal e = ap (λ q. ordering_then q Equal) (nat_cmp_is (count_under r x.1 5) (count_under r y.1 5) Equal (ap (λ q. count_under r q 5) (list_equal x.1 y.1 e)))
    go Greater e = ap (λ q. ordering_then q Equal) (nat_cmp_is (count_under r x.1 5) (count_under r y.1 5) Greater (ranks_below r c y x.1 lc ec (turned x.1 y.1 e)))

rank_costs : (r : ℕ → Option Key) (p : Option Key) → same p (key_of (ranked r p))
rank_costs r None = tt
rank_costs r (Some x) = refl

rank_order : (r : ℕ → Option Key) (b c : ℕ) → b < 5 → c < 5 → (p q : Option Key) → r b ≡ p → r c ≡ q → lists_cmp p q ≡ lists_cmp (key_of (ranked r p)) (key_of (ranked r q))
rank_order r b c lb lc None q eb ec = refl
rank_order r b c lb lc (Some x) None eb ec = refl
rank_order r b c lb lc (Some x) (Some y) eb ec = ranks_cmp r b c x y lb lc eb ec

pub ranks_alike : (r : ℕ → Option Key) → AreAlike r (λ b. key_of (ranked r (r b)))
ranks_alike r = record { costs = λ b low. rank_costs r (r b); order = λ b c lb lc. rank_order r b c lb lc (r b) (r c) refl refl }

-- ---- products of rows that are alike

-- the first differ in their lists, or come from one place
then_same : (o o' u u' : Ordering) → o ≡ o' → (o ≡ Equal → u ≡ u') → ordering_then o u ≡ ordering_then o' u'
then_same Less o' u u' e f = ap (λ q. ordering_then q u') e
then_same Equal o' u u' e f = f refl ∙ ap (λ q. ordering_then q u') e
then_same Greater o' u u' e f = ap (λ q. ordering_then q u') e

abbrev pub parse : Option Key → Option Key → Type 0
parse None q = Unit {0}
parse (Some x) None = Unit {0}
parse (Some x) (Some y) = Parse x.1 y.1

joined_same : (p p' q q' : Option Key) → same p p' → same q q' → same (key_sum p q) (key_sum p' q')
joined_same None None q q' h k = tt
joined_same None (Some y) q q' h k = absurd h
joined_same (Some x) None q q' h k = absurd h
joined_same (Some x) (Some y) None None h k = tt
joined_same (Some x) (Some y) None (Some v) h k = absurd k
joined_same (Some x) (Some y) (Some u) None h k = absurd k
joined_same (Some x) (Some y) (Some u) (Some v) h k = λ i. h i + k i

pub joined_cmp : (x u y v : Key) → Parse x.1 u.1 → list_cmp (plus x y).1 (plus u v).1 ≡ ordering_then (list_cmp x.1 u.1) (list_cmp y.1 v.1)
joined_cmp x u y v l = l y.1 v.1

joined_order : (p p' q q' u u' v v' : Option Key) → same p p' → same q q' → same u u' → same v v'
    → parse p u → parse p' u'
    → lists_cmp p u ≡ lists_cmp p' u' → ((x y : Key) → p ≡ Some x → u ≡ Some y → list_cmp x.1 y.1 ≡ Equal → lists_cmp q v ≡ lists_cmp q' v')
    → lists_cmp (key_sum p q) (key_sum u v) ≡ lists_cmp (key_sum p' q') (key_sum u' v')
joined_order None None q q' u u' v v' h1 h2 h3 h4 l1 l3 e f = refl
joined_order None (Some y) q q' u u' v v' h1 h2 h3 h4 l1 l3 e f = absurd h1
joined_order (Some x) None q q' u u' v v' h1 h2 h3 h4 l1 l3 e f = absurd h1
joined_order (Some x) (Some y) None None u u' v v' h1 h2 h3 h4 l1 l3 e f = refl
joined_order (Some x) (Some y) None (Some b) u u' v v' h1 h2 h3 h4 l1 l3 e f = absurd h2
joined_order (Some x) (Some y) (Some a) None u u' v v' h1 h2 h3 h4 l1 l3 e f = absurd h2
joined_order (Some x) (Some y) (Some a) (Some b) None None v v' h1 h2 h3 h4 l1 l3 e f = refl
joined_order (Some x) (Some y) (Some a) (Some b) None (Some d) v v' h1 h2 h3 h4 l1 l3 e f = absurd h3
joined_order (Some x) (Some y) (Some a) (Some b) (Some c) None v v' h1 h2 h3 h4 l1 l3 e f = absurd h3
joined_order (Some x) (Some y) (Some a) (Some b) (Some c) (Some d) None None h1 h2 h3 h4 l1 l3 e f = refl
joined_order (Some x) (Some y) (Some a) (Some b) (Some c) (Some d) None (Some t) h1 h2 h3 h4 l1 l3 e f = absurd h4
joined_order (Some x) (Some y) (Some a) (Some b) (Some c) (Some d) (Some s) None h1 h2 h3 h4 l1 l3 e f = absurd h4
joined_order (Some x) (Some y) (Some a) (Some b) (Some c) (Some d) (Some s) (Some t) h1 h2 h3 h4 l1 l3 e f =
    joined_cmp x c a s l1
    ∙ then_same (list_cmp x.1 c.1) (list_cmp y.1 d.1) (list_cmp a.1 s.1) (list_cmp b.1 t.1) e (f x c refl refl)
    ∙ sym (joined_cmp y d b t l3)

pub none_right : (p : Option Key) → lists_cmp p None ≡ Equal
none_right None = refl
none_right (Some x) = refl

-- no two of a row have one list
abbrev pub AreApart : (ℕ → Option Key) → Type 0
AreApart r = (b c : ℕ) → b < 5 → c < 5 → (x y : Key) → r b ≡ Some x → r c ≡ Some y → x.1 ≡ y.1 → b ≡ c

-- the way through a count in the middle
abbrev pub via : (ℕ → Option Key) → Keys → ℕ → Option ℕ → Option Key
via r l b None = None
via r l b (Some m) = key_sum (r m) (l m b)

abbrev pub IsCount : Option ℕ → Type 0
IsCount None = Unit {0}
IsCount (Some m) = m < 5

module _ (r s : ℕ → Option Key) (l k : Keys) (rows : AreAlike r s) (after : (m : ℕ) → m < 5 → AreAlike (l m) (k m)) (apart : AreApart r)
    (long : (m m' : ℕ) → m < 5 → m' < 5 → parse (r m) (r m')) (long' : (m m' : ℕ) → m < 5 → m' < 5 → parse (s m) (s m')) where
  via_costs : (b : ℕ) → b < 5 → (o : Option ℕ) → IsCount o → same (via r l b o) (via s k b o)
  via_costs b low None h = tt
  via_costs b low (Some m) h = joined_same (r m) (s m) (l m b) (k m b) (rows.costs m h) ((after m h).costs b low)

  via_order : (b c : ℕ) → b < 5 → c < 5 → (o u : Option ℕ) → IsCount o → IsCount u → lists_cmp (via r l b o) (via r l c u) ≡ lists_cmp (via s k b o) (via s k c u)
  via_order b c lb lc None u h g = refl
  via_order b c lb lc (Some m) None h g = none_right (key_sum (r m) (l m b)) ∙ sym (none_right (key_sum (s m) (k m b)))
  via_order b c lb lc (Some m) (Some m') h g =
      joined_order (r m) (s m) (l m b) (k m b) (r m') (s m') (l m' c) (k m' c)
      (rows.costs m h) ((after m h).costs b lb) (rows.costs m' g) ((after m' g).costs c lc)
      (long m m' h g) (long' m m' h g) (rows.order m m' h g) last_same
    where
      last_same : (x y : Key) → r m ≡ Some x → r m' ≡ Some y → list_cmp x.1 y.1 ≡ Equal → lists_cmp (l m b) (l m' c) ≡ lists_cmp (k m b) (k m' c)
      last_same x y ex ey e =
          let one_place : m ≡ m' = apart m m' h g x y ex ey (list_equal x.1 y.1 e) in
          subst (λ w. lists_cmp (l m b) (l w c) ≡ lists_cmp (k m b) (k w c)) one_place ((after m h).order b c lb lc)

  pub via_alike : (o : ℕ → Option ℕ) → ((b : ℕ) → b < 5 → IsCount (o b)) → AreAlike (λ b. via r l b (o b)) (λ b. via s k b (o b))
  via_alike o h = record {
    costs = λ b low. via_costs b low (o b) (h b low);
    order = λ b c lb lc. via_order b c lb lc (o b) (o c) (h b lb) (h c lc);
  }
