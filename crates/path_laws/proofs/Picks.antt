-- Two that pick by orders that agree pick the same.
use Rattle.std.proofs.Common.{◌≡◌, ◌≢◌, ℕ, zero, suc, ◌+◌, ◌<◌, Bool, true, false, ◌||◌, ◌&&◌, ◌==◌, nat_lt, [], ◌∷◌, refl, sym, ap, ◌∙◌, arith}
use Rattle.std.specs.Prelude.{Option, Some, None, if◌then◌else◌, cond}
use Rattle.std.specs.Ordering.{nat_cmp, ordering_then, is_lt}
use Rattle.std.proofs.lemmas.Bool.Decides.{nat_tests}
use Rattle.std.specs.declared.cmp.Ordering.{Ordering}
use Rattle.std.specs.declared.cmp.Ordering.TheVariants.{Less, Equal, Greater}
use Rattle.rhythm_base.specs.declared.best.Best.{Best}
use Rattle.rhythm_base.specs.Ranked.{Key, Keys, Sum, list_cmp, is_before, sum_before, plus, key_sum, summed, key_of, better, pick, number_of, value_of, times, sum_key}
use Rattle.path_laws.specs.Rows.{AreAlike, same, lists_cmp}
use Rattle.path_laws.proofs.Alike.{AreApart, parse, joined_cmp, via, IsCount}
use Rattle.path_laws.proofs.KeyOrders.{Parse}

-- ---- what is picked is one of them

module _ {X : Type 0} where
  abbrev pub Held : (ℕ → Option X) → ℕ → Option (ℕ × X) → Type 0
  Held c n None = Unit {0}
  Held c n (Some x) = (x.0 < n) × (c x.0 ≡ Some x.1)

  better_held : (lt : X → X → Bool) (c : ℕ → Option X) (n : ℕ) (o : Option (ℕ × X)) (p : Option X) → Held c n o → c n ≡ p → Held c (suc n) (better lt o n p)
  better_held lt c n None None h e = tt
  better_held lt c n (Some y) None h e = (omega (arith, h.0), h.1)
  better_held lt c n None (Some x) h e = (omega arith, e)
  better_held lt c n (Some y) (Some x) h e = go (lt x y.1)
    where
      go : (b : Bool) → Held c (suc n) (if b then Some (n, x) else Some y)
      go true = (omega arith, e)
      go false = (omega (arith, h.0), h.1)

  pub pick_held : (lt : X → X → Bool) (c : ℕ → Option X) (n : ℕ) → Held c n (pick lt c n)
  pick_held lt c zero = tt
  pick_held lt c (suc n) = better_held lt c n (pick lt c n) (c n) (pick_held lt c n) refl

  abbrev pub found : (ℕ → Option X) → Option ℕ → Option X
  found c None = None
  found c (Some m) = c m

  held_found : (c : ℕ → Option X) (n : ℕ) (o : Option (ℕ × X)) → Held c n o → value_of o ≡ found c (number_of o)
  held_found c n None h = refl
  held_found c n (Some x) h = sym h.1

  pub pick_found : (lt : X → X → Bool) (c : ℕ → Option X) (n : ℕ) → value_of (pick lt c n) ≡ found c (number_of (pick lt c n))
  pick_found lt c n = held_found c n (pick lt c n) (pick_held lt c n)

  held_count : (c : ℕ → Option X) (o : Option (ℕ × X)) → Held c 5 o → IsCount (number_of o)
  held_count c None h = tt
  held_count c (Some x) h = h.0

  pub pick_count : (lt : X → X → Bool) (c : ℕ → Option X) → IsCount (number_of (pick lt c 5))
  pick_count lt c = held_count c (pick lt c 5) (pick_held lt c 5)

  abbrev pub tested : (X → X → Bool) → Option X → Option X → Bool
  tested lt None q = false
  tested lt (Some x) None = false
  tested lt (Some x) (Some y) = lt x y

-- ---- two at once

module _ {X Y : Type 0} where
  abbrev pub both_there : Option X → Option Y → Type 0
  both_there None None = Unit {0}
  both_there None (Some y) = ⊥
  both_there (Some x) None = ⊥
  both_there (Some x) (Some y) = Unit {0}

  abbrev pub Twins : (ℕ → Option X) → (ℕ → Option Y) → ℕ → Option (ℕ × X) → Option (ℕ × Y) → Type 0
  Twins c d n None None = Unit {0}
  Twins c d n None (Some y) = ⊥
  Twins c d n (Some x) None = ⊥
  Twins c d n (Some x) (Some y) = (x.0 ≡ y.0) × (x.0 < n) × (c x.0 ≡ Some x.1) × (d x.0 ≡ Some y.1)

  module _ (lt : X → X → Bool) (gt : Y → Y → Bool) (c : ℕ → Option X) (d : ℕ → Option Y) where
    twins_better : (n : ℕ) (o : Option (ℕ × X)) (u : Option (ℕ × Y)) (p : Option X) (q : Option Y) → Twins c d n o u → c n ≡ p → d n ≡ q → both_there p q
        → ((m : ℕ) → m < n → tested lt p (c m) ≡ tested gt q (d m)) → Twins c d (suc n) (better lt o n p) (better gt u n q)
    twins_better n None None None None h e f k t = tt
    twins_better n None (Some v) p q h e f k t = absurd h
    twins_better n (Some w) None p q h e f k t = absurd h
    twins_better n (Some w) (Some v) None None h e f k t = (h.0, omega (arith, h.1), h.2, h.3)
    twins_better n None None None (Some y) h e f k t = absurd k
    twins_better n None None (Some x) None h e f k t = absurd k
    twins_better n None None (Some x) (Some y) h e f k t = (refl, omega arith, e, f)
    twins_better n (Some w) (Some v) None (Some y) h e f k t = absurd k
    twins_better n (Some w) (Some v) (Some x) None h e f k t = absurd k
    twins_better n (Some w) (Some v) (Some x) (Some y) h e f k t = go (lt x w.1) (gt y v.1) alike
      where
        alike : lt x w.1 ≡ gt y v.1
        alike = sym (ap (tested lt (Some x)) h.2) ∙ t w.0 h.1 ∙ ap (tested gt (Some y)) h.3

        go : (a b : Bool) → a ≡ b → Twins c d (suc n) (if a then Some (n, x) else Some w) (if b then Some (n, y) else Some v)
        go true true s = (refl, omega arith, e, f)
        go false false s = (h.0, omega (arith, h.1), h.2, h.3)
        go true false s = absurd (cc)
        go false true s = absurd (cc)

    twins_number : (n : ℕ) (o : Option (ℕ × X)) (u : Option (ℕ × Y)) → Twins c d n o u → number_of o ≡ number_of u
    twins_number n None None h = refl
    twins_number n None (Some v) h = absurd h
    twins_number n (Some w) None h = absurd h
    twins_number n (Some w) (Some v) h = ap Some h.0

    pick_twins : (n : ℕ) → ((m : ℕ) → m < n → both_there (c m) (d m)) → ((i j : ℕ) → i < n → j < i → tested lt (c i) (c j) ≡ tested gt (d i) (d j))
        → Twins c d n (pick lt c n) (pick gt d n)
    pick_twins zero k t = tt
    pick_twins (suc n) k t =
        twins_better n (pick lt c n) (pick gt d n) (c n) (d n) (pick_twins n (λ m low. k m (omega arith)) (λ i j low less. t i j (omega arith) less))
        refl refl (k n (omega arith)) (λ m low. t n m (omega arith) low)

    pub pick_same : (n : ℕ) → ((m : ℕ) → m < n → both_there (c m) (d m)) → ((i j : ℕ) → i < n → j < i → tested lt (c i) (c j) ≡ tested gt (d i) (d j))
        → number_of (pick lt c n) ≡ number_of (pick gt d n)
    pick_same n k t = twins_number n (pick lt c n) (pick gt d n) (pick_twins n k t)

-- ---- by keys, and by sums and left ranks

pub decides : (x y r s : ℕ) (w : Ordering) → r ≢ s → is_lt (ordering_then (nat_cmp x y) (ordering_then (ordering_then (nat_cmp r s) Equal) w)) ≡ nat_lt x y || ((x == y) && nat_lt r s)
decides x y r s w n = go (nat_lt x y) (x == y) (nat_lt r s) (r == s) (grind (arith, nat_tests))
  where
    go : (a b c d : Bool) → d ≡ false
        → is_lt (ordering_then (cond a Less (cond b Equal Greater)) (ordering_then (ordering_then (cond c Less (cond d Equal Greater)) Equal) w)) ≡ a || (b && c)
    go true b c d e = refl
    go false false c d e = refl
    go false true true d e = refl
    go false true false false e = refl
    go false true false true e = absurd (cc)

there_same : (p q : Option Key) (e f : Option Best) → same p (key_of e) → same q (key_of f) → both_there (key_sum p q) (summed e f)
there_same None q None f h k = tt
there_same None q (Some e) f h k = absurd h
there_same (Some x) q None f h k = absurd h
there_same (Some x) None (Some e) None h k = tt
there_same (Some x) None (Some e) (Some f) h k = absurd k
there_same (Some x) (Some y) (Some e) None h k = absurd k
there_same (Some x) (Some y) (Some e) (Some f) h k = tt

before_same : (x y u v : Key) (e f g k : Best) → Parse x.1 u.1 → x.0 ≡ e.cost → y.0 ≡ f.cost → u.0 ≡ g.cost → v.0 ≡ k.cost
    → list_cmp x.1 u.1 ≡ ordering_then (nat_cmp e.rank g.rank) Equal → e.rank ≢ g.rank
    → is_before (plus x y) (plus u v) ≡ sum_before (e.cost + f.cost, e.rank, f.rank) (g.cost + k.cost, g.rank, k.rank)
before_same x y u v e f g k lx c1 c2 c3 c4 order other =
    let lists : list_cmp (plus x y).1 (plus u v).1 ≡ ordering_then (ordering_then (nat_cmp e.rank g.rank) Equal) (list_cmp y.1 v.1)
    = joined_cmp x u y v lx ∙ ap (λ o. ordering_then o (list_cmp y.1 v.1)) order in
    (λ i. is_lt (ordering_then (nat_cmp (c1 i + c2 i) (c3 i + c4 i)) (lists i)))
    ∙ decides (e.cost + f.cost) (g.cost + k.cost) e.rank g.rank (list_cmp y.1 v.1) other

tests_same : (p q u v : Option Key) (e f g k : Option Best) → same p (key_of e) → same q (key_of f) → same u (key_of g) → same v (key_of k)
    → parse p u → lists_cmp p u ≡ lists_cmp (key_of e) (key_of g)
    → ((x y : Best) → e ≡ Some x → g ≡ Some y → x.rank ≢ y.rank)
    → tested is_before (key_sum p q) (key_sum u v) ≡ tested sum_before (summed e f) (summed g k)
tests_same None q u v None f g k h1 h2 h3 h4 lp o a = refl
tests_same None q u v (Some e) f g k h1 h2 h3 h4 lp o a = absurd h1
tests_same (Some x) q u v None f g k h1 h2 h3 h4 lp o a = absurd h1
tests_same (Some x) None u v (Some e) None g k h1 h2 h3 h4 lp o a = refl
tests_same (Some x) None u v (Some e) (Some f) g k h1 h2 h3 h4 lp o a = absurd h2
tests_same (Some x) (Some y) u v (Some e) None g k h1 h2 h3 h4 lp o a = absurd h2
tests_same (Some x) (Some y) None v (Some e) (Some f) None k h1 h2 h3 h4 lp o a = refl
tests_same (Some x) (Some y) None v (Some e) (Some f) (Some g) k h1 h2 h3 h4 lp o a = absurd h3
tests_same (Some x) (Some y) (Some u) v (Some e) (Some f) None k h1 h2 h3 h4 lp o a = absurd h3
tests_same (Some x) (Some y) (Some u) None (Some e) (Some f) (Some g) None h1 h2 h3 h4 lp o a = refl
tests_same (Some x) (Some y) (Some u) None (Some e) (Some f) (Some g) (Some k) h1 h2 h3 h4 lp o a = absurd h4
tests_same (Some x) (Some y) (Some u) (Some v) (Some e) (Some f) (Some g) None h1 h2 h3 h4 lp o a = absurd h4
tests_same (Some x) (Some y) (Some u) (Some v) (Some e) (Some f) (Some g) (Some k) h1 h2 h3 h4 lp o a =
    before_same x y u v e f g k lp h1 h2 h3 h4 o (a e g refl refl)

-- the same count in the middle
pub middle_same : (r : ℕ → Option Key) (l : Keys) (e : ℕ → Option Best) (f : ℕ → ℕ → Option Best) → AreAlike r (λ m. key_of (e m)) → ((m : ℕ) → m < 5 → AreAlike (l m) (λ b. key_of (f m b)))
    → ((m m' : ℕ) → m < 5 → m' < 5 → parse (r m) (r m')) → AreApart (λ m. key_of (e m)) → (b : ℕ) → b < 5
    → number_of (pick is_before (λ m. key_sum (r m) (l m b)) 5) ≡ number_of (pick sum_before (λ m. summed (e m) (f m b)) 5)
middle_same r l e f rows after long apart b low =
    pick_same is_before sum_before (λ m. key_sum (r m) (l m b)) (λ m. summed (e m) (f m b)) 5
    (λ m k. there_same (r m) (l m b) (e m) (f m b) (rows.costs m k) ((after m k).costs b low))
    (λ i j k less. let k' : j < 5 = omega arith in
    tests_same (r i) (l i b) (r j) (l j b) (e i) (f i b) (e j) (f j b) (rows.costs i k) ((after i k).costs b low) (rows.costs j k') ((after j k').costs b low)
    (long i j k k') (rows.order i j k k') (other i j k k' less))
  where
    other : (i j : ℕ) → i < 5 → j < 5 → j < i → (x y : Best) → e i ≡ Some x → e j ≡ Some y → x.rank ≢ y.rank
    other i j k k' less x y ex ey = λ s.
        let one_place : i ≡ j = apart i j k k' (x.cost, x.rank ∷ []) (y.cost, y.rank ∷ []) (ap key_of ex) (ap key_of ey) (ap (λ q. q ∷ []) s) in
        omega arith

-- ---- sums as keys

abbrev pub keyed : Option Sum → Option Key
keyed None = None
keyed (Some x) = Some (x.0, x.1 ∷ x.2 ∷ [])

keyed_summed : (e f : Option Best) → keyed (summed e f) ≡ key_sum (key_of e) (key_of f)
keyed_summed None f = refl
keyed_summed (Some e) None = refl
keyed_summed (Some e) (Some f) = refl

sum_key_value : (o : Option (ℕ × Sum)) → sum_key o ≡ keyed (value_of o)
sum_key_value None = refl
sum_key_value (Some x) = refl

found_via : (e : ℕ → Option Best) (f : ℕ → ℕ → Option Best) (b : ℕ) (o : Option ℕ)
    → keyed (found (λ m. summed (e m) (f m b)) o) ≡ via (λ m. key_of (e m)) (λ m b. key_of (f m b)) b o
found_via e f b None = refl
found_via e f b (Some m) = keyed_summed (e m) (f m b)

pub sums_via : (e : ℕ → Option Best) (f : ℕ → ℕ → Option Best) (b : ℕ)
    → sum_key (pick sum_before (λ m. summed (e m) (f m b)) 5) ≡ via (λ m. key_of (e m)) (λ m b. key_of (f m b)) b (number_of (pick sum_before (λ m. summed (e m) (f m b)) 5))
sums_via e f b =
    sum_key_value (pick sum_before (λ m. summed (e m) (f m b)) 5)
    ∙ ap keyed (pick_found sum_before (λ m. summed (e m) (f m b)) 5)
    ∙ found_via e f b (number_of (pick sum_before (λ m. summed (e m) (f m b)) 5))

keys_found_via : (r : ℕ → Option Key) (l : Keys) (b : ℕ) (o : Option ℕ) → found (λ m. key_sum (r m) (l m b)) o ≡ via r l b o
keys_found_via r l b None = refl
keys_found_via r l b (Some m) = refl

pub times_via : (k l : Keys) (a b : ℕ) → times k l a b ≡ via (k a) l b (number_of (pick is_before (λ m. key_sum (k a m) (l m b)) 5))
times_via k l a b = pick_found is_before (λ m. key_sum (k a m) (l m b)) 5 ∙ keys_found_via (k a) l b (number_of (pick is_before (λ m. key_sum (k a m) (l m b)) 5))
