-- The first of a set of keys: what is offered to them, the first of a union, and the first of all sums.
use Rattle.std.proofs.Common.{◌≡◌, ℕ, zero, suc, ◌+◌, ◌<◌, ◌≤◌, ◌⊎◌, inl, inr, Bool, true, false, List, [], ◌∷◌, ◌++◌, length, get_or, map, take, refl, sym, ap, ◌∙◌, subst, arith}
use Rattle.std.specs.Prelude.{All, AllPairs, Contains, if◌then◌else◌}
use Rattle.std.specs.Cmp.{ranked, nat_cmp_is}
use Rattle.std.specs.Cmp.Lexicographic.{nat_list_cmp_total}
use Rattle.std.specs.Ordering.{nat_cmp, ordering_then, is_lt}
use Rattle.std.specs.declared.cmp.Ordering.{Ordering}
use Rattle.std.specs.declared.cmp.Ordering.TheVariants.{Less, Equal, Greater}
use Rattle.std.proofs.lemmas.Cmp.{tied_itself}
use Rattle.std.proofs.lemmas.List.{append_assoc, length-map, length-take}
use Rattle.std.proofs.lemmas.List.Elements.{All-take, All-weaker}
use Rattle.std.proofs.lemmas.List.Kept.{AllPairs-cons}
use Rattle.rhythm_base.specs.Ranked.{Key, is_before, list_cmp, plus}
use Rattle.rhythm_base.proofs.FirstLists.{all_contained, contains_split}
use Rattle.path_laws.proofs.KeyOrders.{Parse, key_equal, keys_total, long_parse}
use Rattle.rhythm_base.proofs.TotalOrders.{above, before_above, both_above, itself}
use Rattle.path_laws.proofs.LeastKeys.{Both}
use Rattle.rhythm_base.proofs.OrderedLists.{all_cons, all_head, all_tail, pairs_head, pairs_nil, pairs_tail}
use Rattle.best_trees.specs.Firsts.{AreFirstKeys, IsBefore, all_offered, offered, sums_offered, with_key}

-- ---- members of a list

module _ {X : Type 0} where
  pub contains_first : (x : X) (xs : List X) → Contains (x ∷ xs) x
  contains_first x xs = (zero, omega arith, refl)

  pub contains_later : (x y : X) (ys : List X) → Contains ys x → Contains (y ∷ ys) x
  contains_later x y ys c = (suc c.0, omega (arith, c.1), c.2)

-- ---- the order

pub before_through : (x y z : Key) → IsBefore x y → IsBefore y z → IsBefore x z
before_through x y z h k = go (is_before x z) refl
  where
    go : (t : Bool) → is_before x z ≡ t → t ≡ true
    go true e = refl
    go false e = let no : is_before y z ≡ false = above keys_total y x z (before_above keys_total x y h) e in absurd (cc)

never_itself : (x : Key) → IsBefore x x → ⊥
never_itself x h = let no = itself keys_total x in absurd (cc)

-- one is before the other, or they are the same
pub cases_before : (x y : Key) → IsBefore x y ⊎ ((x ≡ y) ⊎ IsBefore y x)
cases_before x y = go (is_before x y) (is_before y x) refl refl
  where
    go : (a b : Bool) → is_before x y ≡ a → is_before y x ≡ b → IsBefore x y ⊎ ((x ≡ y) ⊎ IsBefore y x)
    go true b e f = inl e
    go false true e f = inr (inr f)
    go false false e f = inr (inl (key_equal x y (both_above keys_total x y e f)))

-- ---- lists in order

pub pairs_take : (n : ℕ) (xs : List Key) → AllPairs IsBefore xs → AllPairs IsBefore (take n xs)
pairs_take zero xs h = pairs_nil IsBefore
pairs_take (suc n) [] h = pairs_nil IsBefore
pairs_take (suc n) (x ∷ xs) h = AllPairs-cons IsBefore x (take n xs) (All-take (IsBefore x) n xs (pairs_head IsBefore x xs h)) (pairs_take n xs (pairs_tail IsBefore x xs h))

-- a key of a list in order is one of the first n, or there are so many before it
take_or : (n : ℕ) (zs : List Key) (y : Key) → AllPairs IsBefore zs → Contains zs y → Contains (take n zs) y ⊎ ((length (take n zs) ≡ n) × All (λ z. IsBefore z y) (take n zs))
take_or zero zs y h c = inr (refl, λ k d lt. absurd (omega (arith, lt)))
take_or (suc n) [] y h c = absurd (omega (arith, c.1))
take_or (suc n) (z ∷ zs) y h c = elim (contains_split y z zs c) [
  | inl same ↦ inl (subst (Contains (z ∷ take n zs)) same (contains_first z (take n zs)))
  | inr later ↦ elim (take_or n zs y (pairs_tail IsBefore z zs h) later) [
    | inl there ↦ inl (contains_later y z (take n zs) there)
    | inr full ↦ inr (ap suc full.0, all_cons (λ z. IsBefore z y) z (take n zs) (all_contained (IsBefore z) zs y (pairs_head IsBefore z zs h) later) full.1)
  ]
]

-- ---- one key offered

with-has : (k : Key) (xs : List Key) → Contains (with_key k xs) k
with-has k [] = contains_first k []
with-has k (x ∷ xs) = go (is_before k x) (is_before x k) refl refl (with-has k xs)
  where
    go : (a b : Bool) → is_before k x ≡ a → is_before x k ≡ b → Contains (with_key k xs) k → Contains (if a then k ∷ x ∷ xs else (if b then x ∷ with_key k xs else x ∷ xs)) k
    go true b e f ih = contains_first k (x ∷ xs)
    go false true e f ih = contains_later k x (with_key k xs) ih
    go false false e f ih = subst (Contains (x ∷ xs)) (key_equal x k (both_above keys_total x k f e)) (contains_first x xs)

with-keeps : (k y : Key) (xs : List Key) → Contains xs y → Contains (with_key k xs) y
with-keeps k y [] c = absurd (omega (arith, c.1))
with-keeps k y (x ∷ xs) c = go (is_before k x) (is_before x k) (with-keeps k y xs)
  where
    go : (a b : Bool) → (Contains xs y → Contains (with_key k xs) y) → Contains (if a then k ∷ x ∷ xs else (if b then x ∷ with_key k xs else x ∷ xs)) y
    go true b ih = contains_later y k (x ∷ xs) c
    go false true ih = elim (contains_split y x xs c) [
      | inl same ↦ subst (Contains (x ∷ with_key k xs)) same (contains_first x (with_key k xs))
      | inr later ↦ contains_later y x (with_key k xs) (ih later)
    ]
    go false false ih = c

with-all : (P : Key → Type 0) (k : Key) (xs : List Key) → P k → All P xs → All P (with_key k xs)
with-all P k [] p h = all_cons P k [] p h
with-all P k (x ∷ xs) p h = go (is_before k x) (is_before x k) (with-all P k xs p (all_tail P x xs h))
  where
    go : (a b : Bool) → All P (with_key k xs) → All P (if a then k ∷ x ∷ xs else (if b then x ∷ with_key k xs else x ∷ xs))
    go true b ih = all_cons P k (x ∷ xs) p h
    go false true ih = all_cons P x (with_key k xs) (all_head P x xs h) ih
    go false false ih = h

pub with-order : (k : Key) (xs : List Key) → AllPairs IsBefore xs → AllPairs IsBefore (with_key k xs)
with-order k [] h = AllPairs-cons IsBefore k [] (λ i d lt. absurd (omega (arith, lt))) h
with-order k (x ∷ xs) h = go (is_before k x) (is_before x k) refl refl (with-order k xs (pairs_tail IsBefore x xs h))
  where
    rest : All (IsBefore x) xs
    rest = pairs_head IsBefore x xs h

    go : (a b : Bool) → is_before k x ≡ a → is_before x k ≡ b → AllPairs IsBefore (with_key k xs) → AllPairs IsBefore (if a then k ∷ x ∷ xs else (if b then x ∷ with_key k xs else x ∷ xs))
    go true b e f ih = AllPairs-cons IsBefore k (x ∷ xs) (all_cons (IsBefore k) x xs e (λ i d lt. before_through k x _ e (rest i d lt))) h
    go false true e f ih = AllPairs-cons IsBefore x (with_key k xs) (with-all (IsBefore x) k xs f rest) ih
    go false false e f ih = h

with-long : (k : Key) (xs : List Key) → length xs ≤ length (with_key k xs)
with-long k [] = omega arith
with-long k (x ∷ xs) = go (is_before k x) (is_before x k) (with-long k xs)
  where
    go : (a b : Bool) → length xs ≤ length (with_key k xs) → suc (length xs) ≤ length (if a then k ∷ x ∷ xs else (if b then x ∷ with_key k xs else x ∷ xs))
    go true b ih = omega arith
    go false true ih = omega (arith, ih)
    go false false ih = omega arith

-- a key after all is the last
pub with-last : (k : Key) (xs : List Key) → All (λ x. IsBefore x k) xs → with_key k xs ≡ xs ++ k ∷ []
with-last k [] h = refl
with-last k (x ∷ xs) h = go (is_before k x) (is_before x k) refl refl (with-last k xs (all_tail (λ x. IsBefore x k) x xs h))
  where
    first : IsBefore x k
    first = all_head (λ x. IsBefore x k) x xs h

    go : (a b : Bool) → is_before k x ≡ a → is_before x k ≡ b → with_key k xs ≡ xs ++ k ∷ [] → (if a then k ∷ x ∷ xs else (if b then x ∷ with_key k xs else x ∷ xs)) ≡ x ∷ (xs ++ k ∷ [])
    go true b e f ih = let no = before_above keys_total x k first in absurd (cc)
    go false true e f ih = ap (λ l. x ∷ l) ih
    go false false e f ih = let yes = first in absurd (cc)

pub take_left : (n : ℕ) (xs ys : List Key) → length xs ≡ n → take n (xs ++ ys) ≡ xs
take_left zero [] ys e = refl
take_left zero (x ∷ xs) ys e = absurd (omega (arith, e))
take_left (suc n) [] ys e = absurd (omega (arith, e))
take_left (suc n) (x ∷ xs) ys e = ap (λ l. x ∷ l) (take_left n xs ys (omega (arith, e)))

pub first-same : (S T : Key → Type 0) (n : ℕ) (xs : List Key) → ((k : Key) → S k → T k) → ((k : Key) → T k → S k) → AreFirstKeys S n xs → AreFirstKeys T n xs
first-same S T n xs f g h = record {
  are = All-weaker S T f xs h.are;
  in_order = h.in_order;
  few = h.few;
  first = λ k t. h.first k (g k t);
}

pub first-none : (S : Key → Type 0) (n : ℕ) → ((k : Key) → S k → ⊥) → AreFirstKeys S n []
first-none S n h = record { are = λ i d lt. absurd (omega (arith, lt)); in_order = pairs_nil IsBefore; few = omega arith; first = λ k s. absurd (h k s) }

pub first-offered : (U : Key → Type 0) (n : ℕ) (xs : List Key) (k : Key) → AreFirstKeys U n xs → AreFirstKeys (λ y. U y ⊎ (y ≡ k)) n (offered n k xs)
first-offered U n xs k h = record {
  are = All-take (λ y. U y ⊎ (y ≡ k)) n (with_key k xs) (with-all (λ y. U y ⊎ (y ≡ k)) k xs (inr refl) (All-weaker U (λ y. U y ⊎ (y ≡ k)) (λ y u. inl u) xs h.are));
  in_order = pairs_take n (with_key k xs) order;
  few = let long = length-take n (with_key k xs) in omega (arith, long);
  first = λ y s. elim s [ inl u ↦ old y u | inr same ↦ own y same ];
}
  where
    order : AllPairs IsBefore (with_key k xs)
    order = with-order k xs h.in_order

    Found : Key → Type 0
    Found y = Contains (offered n k xs) y ⊎ ((length (offered n k xs) ≡ n) × All (λ x. IsBefore x y) (offered n k xs))

    own : (y : Key) → y ≡ k → Contains (offered n k xs) y ⊎ ((length (offered n k xs) ≡ n) × All (λ x. IsBefore x y) (offered n k xs))
    own y same = take_or n (with_key k xs) y order (subst (Contains (with_key k xs)) (sym same) (with-has k xs))

    full : (y : Key) → length xs ≡ n → All (λ x. IsBefore x y) xs → Contains (offered n k xs) y ⊎ ((length (offered n k xs) ≡ n) × All (λ x. IsBefore x y) (offered n k xs))
    full y long before = elim (cases_before k y) [
      | inl less ↦ inr (let l = length-take n (with_key k xs) in let m = with-long k xs in omega (arith, l, m, long), All-take (λ x. IsBefore x y) n (with_key k xs) (with-all (λ x. IsBefore x y) k xs less before))
      | inr other ↦ elim other [
        | inl same ↦ own y (sym same)
        | inr more ↦
            let last = with-last k xs (λ i d lt. before_through _ y k (before i d lt) more) in
            let is : offered n k xs ≡ xs = ap (take n) last ∙ take_left n xs (k ∷ []) long in
            inr (ap length is ∙ long, subst (All (λ x. IsBefore x y)) (sym is) before)
      ]
    ]

    old : (y : Key) → U y → Contains (offered n k xs) y ⊎ ((length (offered n k xs) ≡ n) × All (λ x. IsBefore x y) (offered n k xs))
    old y u = elim (h.first y u) [
      | inl there ↦ take_or n (with_key k xs) y order (with-keeps k y xs there)
      | inr more ↦ full y more.0 more.1
    ]

-- ---- a union

abbrev IsImage : (Key → Key) → List Key → Key → Type 0
IsImage f ys k = (y : Key) × Contains ys y × (k ≡ f y)

pub first-all : (f : Key → Key) (ys : List Key) (U : Key → Type 0) (n : ℕ) (xs : List Key) → AreFirstKeys U n xs → AreFirstKeys (λ k. U k ⊎ IsImage f ys k) n (all_offered n (map f ys) xs)
first-all f [] U n xs h = first-same U (λ k. U k ⊎ IsImage f [] k) n xs (λ k u. inl u) (λ k s. elim s [ inl u ↦ u | inr i ↦ absurd (omega (arith, i.1.1)) ]) h
first-all f (y ∷ ys) U n xs h =
    first-same (λ k. (U k ⊎ (k ≡ f y)) ⊎ IsImage f ys k) (λ k. U k ⊎ IsImage f (y ∷ ys) k) n (all_offered n (map f ys) (offered n (f y) xs)) there back
    (first-all f ys (λ k. U k ⊎ (k ≡ f y)) n (offered n (f y) xs) (first-offered U n xs (f y) h))
  where
    there : (k : Key) → (U k ⊎ (k ≡ f y)) ⊎ IsImage f ys k → U k ⊎ IsImage f (y ∷ ys) k
    there k (inl (inl u)) = inl u
    there k (inl (inr e)) = inr (y, contains_first y ys, e)
    there k (inr i) = inr (i.0, contains_later i.0 y ys i.1, i.2)

    back : (k : Key) → U k ⊎ IsImage f (y ∷ ys) k → (U k ⊎ (k ≡ f y)) ⊎ IsImage f ys k
    back k (inl u) = inl (inl u)
    back k (inr i) = elim (contains_split i.0 y ys i.1) [
      | inl same ↦ inl (inr (i.2 ∙ ap f (sym same)))
      | inr later ↦ inr (i.0, later, i.2)
    ]

-- ---- enough that are earlier

-- those after the head are among the others
others : (zs : List Key) (a : Key) (acc : List Key) → All (IsBefore a) zs → All (Contains (a ∷ acc)) zs → All (Contains acc) zs
others zs a acc after c = λ i d lt. elim (contains_split (get_or zs i d) a acc (c i d lt)) [
  | inl same ↦ absurd (never_itself a (subst (IsBefore a) (sym same) (after i d lt)))
  | inr later ↦ later
]

-- the members of a list in order are no more than those of a list that has them
fewer : (zs acc : List Key) → AllPairs IsBefore zs → AllPairs IsBefore acc → All (Contains acc) zs → length zs ≤ length acc
fewer [] acc h k c = omega arith
fewer (z ∷ zs) [] h k c = let no = all_head (Contains []) z zs c in absurd (omega (arith, no.1))
fewer (z ∷ zs) (a ∷ acc) h k c = elim (contains_split z a acc (all_head (Contains (a ∷ acc)) z zs c)) [
  | inl same ↦
      let after : All (IsBefore a) zs = subst (λ y. All (IsBefore y) zs) (sym same) (pairs_head IsBefore z zs h) in
      let low = fewer zs acc (pairs_tail IsBefore z zs h) (pairs_tail IsBefore a acc k) (others zs a acc after (all_tail (Contains (a ∷ acc)) z zs c)) in
      omega (arith, low)
  | inr later ↦
      let first : IsBefore a z = all_contained (IsBefore a) acc z (pairs_head IsBefore a acc k) later in
      let after : All (IsBefore a) (z ∷ zs) = all_cons (IsBefore a) z zs first (λ i d lt. before_through a z _ first (pairs_head IsBefore z zs h i d lt)) in
      let low = fewer (z ∷ zs) acc h (pairs_tail IsBefore a acc k) (others (z ∷ zs) a acc after c) in
      omega (arith, low)
]

-- as many of them are all of them
same_lists : (zs acc : List Key) → AllPairs IsBefore zs → AllPairs IsBefore acc → All (Contains acc) zs → length acc ≤ length zs → acc ≡ zs
same_lists [] [] h k c long = refl
same_lists [] (a ∷ acc) h k c long = absurd (omega (arith, long))
same_lists (z ∷ zs) [] h k c long = let no = all_head (Contains []) z zs c in absurd (omega (arith, no.1))
same_lists (z ∷ zs) (a ∷ acc) h k c long = elim (contains_split z a acc (all_head (Contains (a ∷ acc)) z zs c)) [
  | inl same ↦
      let after : All (IsBefore a) zs = subst (λ y. All (IsBefore y) zs) (sym same) (pairs_head IsBefore z zs h) in
      let rest = same_lists zs acc (pairs_tail IsBefore z zs h) (pairs_tail IsBefore a acc k) (others zs a acc after (all_tail (Contains (a ∷ acc)) z zs c)) (omega (arith, long)) in
      λ i. same i ∷ rest i
  | inr later ↦
      let first : IsBefore a z = all_contained (IsBefore a) acc z (pairs_head IsBefore a acc k) later in
      let after : All (IsBefore a) (z ∷ zs) = all_cons (IsBefore a) z zs first (λ i d lt. before_through a z _ first (pairs_head IsBefore z zs h i d lt)) in
      let low = fewer (z ∷ zs) acc h (pairs_tail IsBefore a acc k) (others (z ∷ zs) a acc after c) in
      absurd (omega (arith, low, long))
]

-- there are n members of the set that are before the key
pub record HasEnough (Q : Key → Type 0) (n : ℕ) (k : Key) : Type 0 where
  pub keys : List Key
  pub long : length keys ≡ n
  pub in_order : AllPairs IsBefore keys
  pub are : All Q keys
  pub before : All (λ z. IsBefore z k) keys

module _ (Q : Key → Type 0) (n : ℕ) (acc : List Key) (h : AreFirstKeys Q n acc) (k : Key) where
  abbrev Full : Type 0
  Full = (length acc ≡ n) × All (λ x. IsBefore x k) acc

  -- the first have all these, or they are all before the key
  all_there : (zs : List Key) → All Q zs → All (λ z. IsBefore z k) zs → All (Contains acc) zs ⊎ Full
  all_there [] q b = inl (λ i d lt. absurd (omega (arith, lt)))
  all_there (z ∷ zs) q b = elim (h.first z (all_head Q z zs q)) [
    | inl there ↦ elim (all_there zs (all_tail Q z zs q) (all_tail (λ z. IsBefore z k) z zs b)) [
      | inl rest ↦ inl (all_cons (Contains acc) z zs there rest)
      | inr more ↦ inr more
    ]
    | inr more ↦ inr (more.0, λ i d lt. before_through _ z k (more.1 i d lt) (all_head (λ z. IsBefore z k) z zs b))
  ]

  all_before : HasEnough Q n k → Full
  all_before e = elim (all_there e.keys e.are e.before) [
    | inl there ↦
        let is = same_lists e.keys acc e.in_order h.in_order there (let few = h.few in let long = e.long in omega (arith, few, long)) in
        (ap length is ∙ e.long, subst (All (λ x. IsBefore x k)) (sym is) e.before)
    | inr more ↦ more
  ]

-- the first of a set are the first of a greater one whose other members have enough before them
pub first-enough : (Q P : Key → Type 0) (n : ℕ) (acc : List Key) → ((k : Key) → Q k → P k) → ((k : Key) → P k → Q k ⊎ HasEnough Q n k) → AreFirstKeys Q n acc → AreFirstKeys P n acc
first-enough Q P n acc within enough h = record {
  are = All-weaker Q P within acc h.are;
  in_order = h.in_order;
  few = h.few;
  first = λ k p. elim (enough k p) [ inl q ↦ h.first k q | inr e ↦ inr (all_before Q n acc h k e) ];
}

-- ---- sums

less_means : (a c : ℕ) (o : Ordering) → is_lt (ordering_then (nat_cmp a c) o) ≡ true → (a < c) ⊎ ((a ≡ c) × (is_lt o ≡ true))
less_means a c o h = go (nat_cmp a c) refl h
  where
    go : (r : Ordering) → r ≡ nat_cmp a c → is_lt (ordering_then r o) ≡ true → (a < c) ⊎ ((a ≡ c) × (is_lt o ≡ true))
    go Less e f = inl (ranked a c Less e)
    go Equal e f = inr (ranked a c Equal e, f)
    go Greater e f = absurd (cc)

less_by : (a c : ℕ) (o : Ordering) → (a < c) ⊎ ((a ≡ c) × (is_lt o ≡ true)) → is_lt (ordering_then (nat_cmp a c) o) ≡ true
less_by a c o (inl h) = sym (ap (λ r. is_lt (ordering_then r o)) (nat_cmp_is a c Less h))
less_by a c o (inr h) = sym (ap (λ r. is_lt (ordering_then r o)) (nat_cmp_is a c Equal h.0)) ∙ h.1

then_less : (o u : Ordering) → is_lt o ≡ true → is_lt (ordering_then o u) ≡ true
then_less Less u h = refl
then_less Equal u h = absurd (cc)
then_less Greater u h = absurd (cc)

-- the same on the left, and what is before on the right
pub plus_right : (x y z : Key) → IsBefore y z → IsBefore (plus x y) (plus x z)
plus_right x y z h =
    let lists : list_cmp (x.1 ++ y.1) (x.1 ++ z.1) ≡ list_cmp y.1 z.1 = long_parse x.1 x.1 refl y.1 z.1 ∙ ap (λ o. ordering_then o (list_cmp y.1 z.1)) (tied_itself nat_list_cmp_total x.1) in
    ap (λ o. is_lt (ordering_then (nat_cmp (x.0 + y.0) (x.0 + z.0)) o)) lists
    ∙ less_by (x.0 + y.0) (x.0 + z.0) (list_cmp y.1 z.1) (elim (less_means y.0 z.0 (list_cmp y.1 z.1) h) [ inl less ↦ inl (omega (arith, less)) | inr same ↦ inr (ap (λ n. x.0 + n) same.0, same.1) ])

-- what is before costs no more
pub before_cost : (x y : Key) → IsBefore x y → x.0 ≤ y.0
before_cost x y h = elim (less_means x.0 y.0 (list_cmp x.1 y.1) h) [ inl less ↦ (let low = less in omega (arith, low)) | inr same ↦ (let even = same.0 in omega (arith, even)) ]

pub cheap_before : (x y : Key) → x.0 < y.0 → IsBefore x y
cheap_before x y h = less_by x.0 y.0 (list_cmp x.1 y.1) (inl h)

-- the same on the right, and what is before on the left, where lists are no beginnings of one another
plus_left : (x z y : Key) → Parse x.1 z.1 → IsBefore x z → IsBefore (plus x y) (plus z y)
plus_left x z y p h =
    ap (λ o. is_lt (ordering_then (nat_cmp (x.0 + y.0) (z.0 + y.0)) o)) (p y.1 y.1)
    ∙ less_by (x.0 + y.0) (z.0 + y.0) (ordering_then (list_cmp x.1 z.1) (list_cmp y.1 y.1)) (elim (less_means x.0 z.0 (list_cmp x.1 z.1) h) [
      | inl less ↦ inl (omega (arith, less))
      | inr same ↦ inr (ap (λ n. n + y.0) same.0, then_less (list_cmp x.1 z.1) (list_cmp y.1 y.1) same.1)
    ])

-- a list of keys, each changed so that the order stays
mapped_all : (P : Key → Type 0) (f : Key → Key) (xs : List Key) → All (λ x. P (f x)) xs → All P (map f xs)
mapped_all P f [] h = λ i d lt. absurd (omega (arith, lt))
mapped_all P f (x ∷ xs) h = all_cons P (f x) (map f xs) (all_head (λ x. P (f x)) x xs h) (mapped_all P f xs (all_tail (λ x. P (f x)) x xs h))

-- whatever is so of members
all_by : (P : Key → Type 0) (xs : List Key) → ((x : Key) → Contains xs x → P x) → All P xs
all_by P [] h = λ i d lt. absurd (omega (arith, lt))
all_by P (x ∷ xs) h = all_cons P x xs (h x (contains_first x xs)) (all_by P xs (λ y c. h y (contains_later y x xs c)))

mapped_order : (f : Key → Key) (xs : List Key) → ((x y : Key) → Contains xs x → Contains xs y → IsBefore x y → IsBefore (f x) (f y)) → AllPairs IsBefore xs → AllPairs IsBefore (map f xs)
mapped_order f [] keeps h = pairs_nil IsBefore
mapped_order f (x ∷ xs) keeps h =
    let after = pairs_head IsBefore x xs h in
    AllPairs-cons IsBefore (f x) (map f xs)
    (mapped_all (IsBefore (f x)) f xs (all_by (λ y. IsBefore (f x) (f y)) xs (λ y c. keeps x y (contains_first x xs) (contains_later y x xs c) (all_contained (IsBefore x) xs y after c))))
    (mapped_order f xs (λ y z c d. keeps y z (contains_later y x xs c) (contains_later z x xs d)) (pairs_tail IsBefore x xs h))

contains_mapped : (f : Key → Key) (xs : List Key) (x : Key) → Contains xs x → Contains (map f xs) (f x)
contains_mapped f [] x c = absurd (omega (arith, c.1))
contains_mapped f (y ∷ ys) x c = elim (contains_split x y ys c) [
  | inl same ↦ subst (λ z. Contains (f y ∷ map f ys) (f z)) same (contains_first (f y) (map f ys))
  | inr later ↦ contains_later (f x) (f y) (map f ys) (contains_mapped f ys x later)
]

-- a key of the set with another before it
abbrev pub IsTopped : (Key → Type 0) → Key → Key → Type 0
IsTopped T x k = (y : Key) × T y × (k ≡ plus x y)

-- the first of a set are the first with a key before each
pub first-mapped : (T : Key → Type 0) (n : ℕ) (top : Key) (xs : List Key) → AreFirstKeys T n xs → AreFirstKeys (IsTopped T top) n (map (plus top) xs)
first-mapped T n top xs h = record {
  are = mapped_all (IsTopped T top) (plus top) xs (All-weaker T (λ x. IsTopped T top (plus top x)) (λ x t. (x, t, refl)) xs h.are);
  in_order = mapped_order (plus top) xs (λ y z c d less. plus_right top y z less) h.in_order;
  few = let few = h.few in let same = length-map xs (plus top) in omega (arith, few, same);
  first = λ k s. elim (h.first s.0 s.1) [
    | inl there ↦ inl (subst (Contains (map (plus top) xs)) (sym s.2) (contains_mapped (plus top) xs s.0 there))
    | inr full ↦ inr (
      length-map xs (plus top) ∙ full.0,
      mapped_all (λ z. IsBefore z k) (plus top) xs (λ i d lt. subst (IsBefore (plus top (get_or xs i d))) (sym s.2) (plus_right top (get_or xs i d) s.0 (full.1 i d lt))),
    )
  ];
}

-- with one list before them, lists are no beginnings of one another where they were none
same_top : (t x y : List ℕ) → list_cmp (t ++ x) (t ++ y) ≡ list_cmp x y
same_top t x y = long_parse t t refl x y ∙ ap (λ o. ordering_then o (list_cmp x y)) (tied_itself nat_list_cmp_total t)

parse_topped : (t x y : List ℕ) → Parse x y → Parse (t ++ x) (t ++ y)
parse_topped t x y p u v =
    (λ i. list_cmp (append_assoc t x u i) (append_assoc t y v i)) ∙ same_top t (x ++ u) (y ++ v) ∙ p u v ∙ ap (λ o. ordering_then o (list_cmp u v)) (sym (same_top t x y))

pub topped-parse : (T : Key → Type 0) (top : Key) → ((k l : Key) → T k → T l → Parse k.1 l.1) → (k l : Key) → IsTopped T top k → IsTopped T top l → Parse k.1 l.1
topped-parse T top parse k l (x, s, is) (y, t, is') =
    subst (λ (z : Key). Parse z.1 l.1) (sym is) (subst (λ (z : Key). Parse (top.1 ++ x.1) z.1) (sym is') (parse_topped top.1 x.1 y.1 (parse x y s t)))

pub plus_assoc : (x y z : Key) → plus (plus x y) z ≡ plus x (plus y z)
plus_assoc x y z =
    let sum : (x.0 + y.0) + z.0 ≡ x.0 + (y.0 + z.0) = omega arith in
    λ i. (sum i, append_assoc x.1 y.1 z.1 i)

pub plus_nothing : (x : Key) → plus (0, []) x ≡ x
plus_nothing x =
    let same : 0 + x.0 ≡ x.0 = omega arith in
    λ i. (same i, x.1)

-- one key before all of a set
pub first-topped : (U T : Key → Type 0) (n : ℕ) (x : Key) (ys acc : List Key) → AreFirstKeys T n ys → AreFirstKeys U n acc → AreFirstKeys (λ k. U k ⊎ ((y : Key) × T y × (k ≡ plus x y))) n (all_offered n (map (plus x) ys) acc)
first-topped U T n x ys acc right h =
    first-enough (λ k. U k ⊎ IsImage (plus x) ys k) (λ k. U k ⊎ ((y : Key) × T y × (k ≡ plus x y))) n (all_offered n (map (plus x) ys) acc) within enough (first-all (plus x) ys U n acc h)
  where
    within : (k : Key) → U k ⊎ IsImage (plus x) ys k → U k ⊎ ((y : Key) × T y × (k ≡ plus x y))
    within k (inl u) = inl u
    within k (inr i) = inr (i.0, all_contained T ys i.0 right.are i.1, i.2)

    enough : (k : Key) → U k ⊎ ((y : Key) × T y × (k ≡ plus x y)) → (U k ⊎ IsImage (plus x) ys k) ⊎ HasEnough (λ k. U k ⊎ IsImage (plus x) ys k) n k
    enough k (inl u) = inl (inl u)
    enough k (inr (y, t, is)) = elim (right.first y t) [
      | inl there ↦ inl (inr (y, there, is))
      | inr full ↦ inr record {
        keys = map (plus x) ys;
        long = length-map ys (plus x) ∙ full.0;
        in_order = mapped_order (plus x) ys (λ y z c d less. plus_right x y z less) right.in_order;
        are = mapped_all (λ k. U k ⊎ IsImage (plus x) ys k) (plus x) ys (all_by (λ y. U (plus x y) ⊎ IsImage (plus x) ys (plus x y)) ys (λ y d. inr (y, d, refl)));
        before = mapped_all (λ z. IsBefore z k) (plus x) ys (λ i d lt. subst (IsBefore (plus x (get_or ys i d))) (sym is) (plus_right x (get_or ys i d) y (full.1 i d lt)));
      }
    ]

-- the first keys on the left, one after the other, before all of a set
abbrev IsHalf : (Key → Type 0) → List Key → Key → Type 0
IsHalf T xs k = (x : Key) × Contains xs x × ((y : Key) × T y × (k ≡ plus x y))

first-half : (T : Key → Type 0) (n : ℕ) (ys : List Key) → AreFirstKeys T n ys → (xs : List Key) (U : Key → Type 0) (acc : List Key) → AreFirstKeys U n acc → AreFirstKeys (λ k. U k ⊎ IsHalf T xs k) n (sums_offered n xs ys acc)
first-half T n ys right [] U acc h = first-same U (λ k. U k ⊎ IsHalf T [] k) n acc (λ k u. inl u) (λ k s. elim s [ inl u ↦ u | inr i ↦ absurd (omega (arith, i.1.1)) ]) h
first-half T n ys right (x ∷ xs) U acc h =
    first-same (λ k. (U k ⊎ IsTopped T x k) ⊎ IsHalf T xs k) (λ k. U k ⊎ IsHalf T (x ∷ xs) k) n (sums_offered n xs ys (all_offered n (map (plus x) ys) acc)) there back
    (first-half T n ys right xs (λ k. U k ⊎ IsTopped T x k) (all_offered n (map (plus x) ys) acc) (first-topped U T n x ys acc right h))
  where
    there : (k : Key) → (U k ⊎ IsTopped T x k) ⊎ IsHalf T xs k → U k ⊎ IsHalf T (x ∷ xs) k
    there k (inl (inl u)) = inl u
    there k (inl (inr i)) = inr (x, contains_first x xs, i)
    there k (inr i) = inr (i.0, contains_later i.0 x xs i.1, i.2)

    back : (k : Key) → U k ⊎ IsHalf T (x ∷ xs) k → (U k ⊎ IsTopped T x k) ⊎ IsHalf T xs k
    back k (inl u) = inl (inl u)
    back k (inr i) = elim (contains_split i.0 x xs i.1) [
      | inl same ↦ inl (inr (i.2.0, i.2.1, i.2.2 ∙ ap (λ z. plus z i.2.0) (sym same)))
      | inr later ↦ inr (i.0, later, i.2)
    ]

module _ (U S T : Key → Type 0) (n : ℕ) (xs ys : List Key) (left : AreFirstKeys S n xs) (right : AreFirstKeys T n ys) (parse : (k l : Key) → S k → S l → Parse k.1 l.1) where
  abbrev Half : Key → Type 0
  Half k = U k ⊎ IsHalf T xs k

  within : (k : Key) → Half k → U k ⊎ Both S T k
  within k (inl u) = inl u
  within k (inr (x, c, (y, t, is))) = inr (x, y, all_contained S xs x left.are c, t, is)

  enough : (k : Key) → U k ⊎ Both S T k → Half k ⊎ HasEnough Half n k
  enough k (inl u) = inl (inl u)
  enough k (inr (x, y, s, t, is)) = elim (left.first x s) [
    | inl there ↦ inl (inr (x, there, (y, t, is)))
    | inr full ↦ inr record {
      keys = map (λ z. plus z y) xs;
      long = length-map xs (λ (z : Key). plus z y) ∙ full.0;
      in_order = mapped_order (λ z. plus z y) xs (λ v w c d less. plus_left v w y (parse v w (all_contained S xs v left.are c) (all_contained S xs w left.are d)) less) left.in_order;
      are = mapped_all Half (λ z. plus z y) xs (all_by (λ z. Half (plus z y)) xs (λ z c. inr (z, c, (y, t, refl))));
      before = mapped_all (λ z. IsBefore z k) (λ z. plus z y) xs (all_by (λ z. IsBefore (plus z y) k) xs (λ z c. subst (IsBefore (plus z y)) (sym is) (plus_left z x y (parse z x (all_contained S xs z left.are c) s) (all_contained (λ z. IsBefore z x) xs z full.1 c))));
    }
  ]

  -- the first of all sums are the first of the sums of the first
  pub first-joined : (acc : List Key) → AreFirstKeys U n acc → AreFirstKeys (λ k. U k ⊎ Both S T k) n (sums_offered n xs ys acc)
  first-joined acc h = first-enough Half (λ k. U k ⊎ Both S T k) n (sums_offered n xs ys acc) within enough (first-half T n ys right xs U acc h)
