-- Where a key that is offered stands, and what an offer keeps.
use Rattle.std.proofs.Common.{◌≡◌, ℕ, zero, suc, inl, inr, ◌+◌, ◌-◌, ◌<◌, ◌≤◌, Bool, true, false, List, [], ◌∷◌, ◌++◌, length, get_or, map, take, drop, refl, sym, ap, ◌∙◌, subst, arith}
use Rattle.std.specs.Prelude.{◌⊎◌, All, AllPairs, Contains, None, Some, if◌then◌else◌, nat_lt, slice_get}
use Rattle.std.specs.List.{insert}
use Rattle.std.specs.Ordering.{is_gt}
use Rattle.std.specs.declared.cmp.Ordering.TheVariants.{Equal, Greater}
use Rattle.std.proofs.lemmas.Bool.Decides.{nat_tests}
use Rattle.std.proofs.lemmas.List.{drop_more, length-append, length-take, take_all}
use Rattle.std.proofs.lemmas.Option.{get_or_from_slice_get, slice_get_within}
use Rattle.rhythm_base.specs.Ranked.{Key, is_before, key_cmp, plus}
use Rattle.rhythm_base.proofs.FirstLists.{all_contained, contains_split}
use Rattle.rhythm_base.proofs.TotalOrders.{before_above, flip, itself}
use Rattle.path_laws.proofs.KeyOrders.{key_equal, keys_total}
use Rattle.rhythm_base.proofs.OrderedLists.{all_cons, all_head, all_tail, pairs_head, pairs_tail}
use Rattle.best_trees.specs.Firsts.{AreCheaper, AreKeptKeys, IsBefore, IsPast, IsPlace, all_offered, offered, sums_offered, with_key}
use Rattle.best_trees.proofs.Firsts.{before_cost, before_through, cheap_before, pairs_take, plus_right, take_left, with-last, with-order}

-- ---- places

-- those up to one that is before the key are before it
low_to : (xs : List Key) (k : Key) (n : ℕ) (d : Key) → AllPairs IsBefore xs → n < length xs → IsBefore (get_or xs n d) k → All (λ x. IsBefore x k) (take (suc n) xs)
low_to [] k n d h low is = absurd (omega (arith, low))
low_to (x ∷ xs) k zero d h low is = all_cons (λ x. IsBefore x k) x [] is (λ i e lt. absurd (omega (arith, lt)))
low_to (x ∷ xs) k (suc n) d h low is =
    let more : n < length xs = omega (arith, low) in
    all_cons (λ x. IsBefore x k) x (take (suc n) xs) (before_through x (get_or xs n d) k (pairs_head IsBefore x xs h n d more) is) (low_to xs k n d (pairs_tail IsBefore x xs h) more is)

pub place_after : (xs : List Key) (k : Key) (n : ℕ) (d : Key) → AllPairs IsBefore xs → 0 < n → n ≤ length xs → Greater ≡ key_cmp k (get_or xs (n - 1) d) → All (IsBefore k) (drop n xs) → IsPlace xs k n
place_after xs k n d h some within more high =
    let before : IsBefore (get_or xs (n - 1) d) k = sym (flip keys_total (get_or xs (n - 1) d) k) ∙ sym (ap is_gt more) in
    let whole : suc (n - 1) ≡ n = omega (arith, some) in
    record { within = within; low = subst (λ m. All (λ x. IsBefore x k) (take m xs)) whole (low_to xs k (n - 1) d h (omega (arith, some, within)) before); high = high }

pub key_there : (xs : List Key) (k : Key) (n : ℕ) (d : Key) → n < length xs → Equal ≡ key_cmp k (get_or xs n d) → Contains xs k
key_there [] k n d low is = absurd (omega (arith, low))
key_there (x ∷ xs) k zero d low is = (zero, omega arith, sym (key_equal k x (sym is)))
key_there (x ∷ xs) k (suc n) d low is = let rest = key_there xs k n d (omega (arith, low)) is in (suc rest.0, omega (arith, rest.1), rest.2)

-- ---- offers

with-place : (k : Key) (xs : List Key) (n : ℕ) → n ≤ length xs → All (λ x. IsBefore x k) (take n xs) → All (IsBefore k) (drop n xs) → with_key k xs ≡ take n xs ++ k ∷ drop n xs
with-place k [] zero within low high = refl
with-place k [] (suc n) within low high = absurd (omega (arith, within))
with-place k (x ∷ xs) zero within low high = go (is_before k x) (is_before x k) (all_head (IsBefore k) x xs high)
  where
    go : (a b : Bool) → a ≡ true → (if a then k ∷ x ∷ xs else (if b then x ∷ with_key k xs else x ∷ xs)) ≡ k ∷ x ∷ xs
    go true b h = refl
    go false b h = absurd (cc)
with-place k (x ∷ xs) (suc n) within low high =
    let first = all_head (λ x. IsBefore x k) x (take n xs) low in
    go (is_before k x) (is_before x k) (before_above keys_total x k first) first (with-place k xs n (omega (arith, within)) (all_tail (λ x. IsBefore x k) x (take n xs) low) high)
  where
    go : (a b : Bool) → a ≡ false → b ≡ true → with_key k xs ≡ take n xs ++ k ∷ drop n xs → (if a then k ∷ x ∷ xs else (if b then x ∷ with_key k xs else x ∷ xs)) ≡ x ∷ (take n xs ++ k ∷ drop n xs)
    go true b h g ih = absurd (cc)
    go false true h g ih = ap (λ l. x ∷ l) ih
    go false false h g ih = absurd (cc)

with-there : (k : Key) (xs : List Key) → AllPairs IsBefore xs → Contains xs k → with_key k xs ≡ xs
with-there k [] h c = absurd (omega (arith, c.1))
with-there k (x ∷ xs) h c = elim (contains_split k x xs c) [
  | inl same ↦
      let one = itself keys_total x in
      alone (is_before k x) (is_before x k) (ap (λ y. is_before y x) (sym same) ∙ one) (ap (λ y. is_before x y) (sym same) ∙ one)
  | inr later ↦
      let first : IsBefore x k = all_contained (IsBefore x) xs k (pairs_head IsBefore x xs h) later in
      go (is_before k x) (is_before x k) (before_above keys_total x k first) first (with-there k xs (pairs_tail IsBefore x xs h) later)
]
  where
    alone : (a b : Bool) → a ≡ false → b ≡ false → (if a then k ∷ x ∷ xs else (if b then x ∷ with_key k xs else x ∷ xs)) ≡ x ∷ xs
    alone false false h g = refl
    alone true b h g = absurd (cc)
    alone false true h g = absurd (cc)

    go : (a b : Bool) → a ≡ false → b ≡ true → with_key k xs ≡ xs → (if a then k ∷ x ∷ xs else (if b then x ∷ with_key k xs else x ∷ xs)) ≡ x ∷ xs
    go true b h g ih = absurd (cc)
    go false true h g ih = ap (λ l. x ∷ l) ih
    go false false h g ih = absurd (cc)

insert_short : (m n : ℕ) (xs : List Key) (k : Key) → n ≤ m → insert (take m xs) n k ≡ take (suc m) (insert xs n k)
insert_short m zero xs k h = refl
insert_short zero (suc n) xs k h = absurd (omega (arith, h))
insert_short (suc m) (suc n) [] k h = refl
insert_short (suc m) (suc n) (x ∷ xs) k h = ap (λ l. x ∷ l) (insert_short m n xs k (omega (arith, h)))

-- a list without its last
pub without_last : (n : ℕ) (xs ys : List Key) (x : Key) → ys ≡ xs ++ x ∷ [] → length ys ≡ n → xs ≡ take (n - 1) ys
without_last n xs ys x e long =
    let more = length-append xs (x ∷ []) in
    let same : length ys ≡ length (xs ++ x ∷ []) = ap length e in
    sym (ap (take (n - 1)) e ∙ take_left (n - 1) xs (x ∷ []) (omega (arith, more, same, long)))

module _ (count : ℕ) (k : Key) (xs : List Key) (kept : AreKeptKeys count xs) where
  -- one that is there changes nothing
  pub offered-there : Contains xs k → xs ≡ offered count k xs
  offered-there c = sym (ap (take count) (with-there k xs kept.in_order c) ∙ take_all count xs kept.few)

  pub offered-placed : (n : ℕ) → IsPlace xs k n → take count (insert xs n k) ≡ offered count k xs
  offered-placed n h = sym (ap (take count) (with-place k xs n h.within h.low h.high))

  -- it does not matter that the last gives way before
  pub offered-room : (n : ℕ) → IsPlace xs k n → n < count → insert (take (count - 1) xs) n k ≡ offered count k xs
  offered-room n h low =
      let whole : suc (count - 1) ≡ count = omega (arith, low) in
      insert_short (count - 1) n xs k (omega (arith, low)) ∙ ap (λ m. take m (insert xs n k)) whole ∙ offered-placed n h

  -- one after so many changes nothing
  pub offered-far : (n : ℕ) → IsPlace xs k n → count ≤ n → xs ≡ offered count k xs
  offered-far n h far =
      let few = kept.few in
      let within = h.within in
      let whole : take n xs ≡ xs = take_all n xs (omega (arith, far, few)) in
      let long : length (take n xs) ≡ count = ap length whole ∙ (let same : length xs ≡ count = omega (arith, far, few, within) in same) in
      sym (ap (take count) (with-place k xs n h.within h.low h.high) ∙ take_left count (take n xs) (k ∷ drop n xs) long ∙ whole)

  pub placed-past : (n : ℕ) → IsPlace xs k n → count ≤ n → IsPast count k xs
  placed-past n h far =
      let few = kept.few in
      let within = h.within in
      record { full = omega (arith, far, few, within); before = subst (All (λ x. IsBefore x k)) (take_all n xs (omega (arith, far, few))) h.low }

  -- one after all, where there are as many as may be, changes nothing
  pub offered-past : IsPast count k xs → offered count k xs ≡ xs
  offered-past h = ap (take count) (with-last k xs h.before) ∙ take_left count xs (k ∷ []) h.full

  pub offered-kept : AreKeptKeys count (offered count k xs)
  offered-kept = record { in_order = pairs_take count (with_key k xs) (with-order k xs kept.in_order); few = let long = length-take count (with_key k xs) in omega (arith, long) }

-- ---- offers one after the other

-- nor do those after it
past-all : (count : ℕ) (k : Key) (ks xs : List Key) → AreKeptKeys count xs → IsPast count k xs → All (IsBefore k) ks → all_offered count ks xs ≡ xs
past-all count k [] xs kept h after = refl
past-all count k (y ∷ ks) xs kept h after =
    let first : IsBefore k y = all_head (IsBefore k) y ks after in
    let past : IsPast count y xs = record { full = h.full; before = λ i d lt. before_through _ k y (h.before i d lt) first } in
    ap (all_offered count ks) (offered-past count y xs kept past) ∙ past-all count k ks xs kept h (all_tail (IsBefore k) y ks after)

pairs_drop : (i : ℕ) (xs : List Key) → AllPairs IsBefore xs → AllPairs IsBefore (drop i xs)
pairs_drop zero xs h = h
pairs_drop (suc i) [] h = h
pairs_drop (suc i) (x ∷ xs) h = pairs_drop i xs (pairs_tail IsBefore x xs h)

pub each-past : (count : ℕ) (k x : Key) (xs old : List Key) (i : ℕ) → i < length xs → x ≡ get_or xs i x → AllPairs IsBefore xs → AreKeptKeys count old → IsPast count (plus k x) old
    → all_offered count (map (plus k) (drop i xs)) old ≡ old
each-past count k x xs old i low is order kept past =
    let split : drop i xs ≡ x ∷ drop (i + 1) xs = drop_more xs i x low ∙ ap (λ y. y ∷ drop (i + 1) xs) (sym is) in
    let after : All (IsBefore x) (drop (i + 1) xs) = pairs_head IsBefore x (drop (i + 1) xs) (subst (AllPairs IsBefore) split (pairs_drop i xs order)) in
    ap (λ l. all_offered count (map (plus k) l) old) split
    ∙ ap (all_offered count (map (plus k) (drop (i + 1) xs))) (offered-past count (plus k x) old kept past)
    ∙ past-all count (plus k x) (map (plus k) (drop (i + 1) xs)) old kept past (mapped_after (drop (i + 1) xs) after)
  where
    mapped_after : (ys : List Key) → All (IsBefore x) ys → All (IsBefore (plus k x)) (map (plus k) ys)
    mapped_after [] h = λ i d lt. absurd (omega (arith, lt))
    mapped_after (y ∷ ys) h = all_cons (IsBefore (plus k x)) (plus k y) (map (plus k) ys) (plus_right k x y (all_head (IsBefore x) y ys h)) (mapped_after ys (all_tail (IsBefore x) y ys h))

pub all-kept : (count : ℕ) (ks xs : List Key) → AreKeptKeys count xs → AreKeptKeys count (all_offered count ks xs)
all-kept count [] xs h = h
all-kept count (k ∷ ks) xs h = all-kept count ks (offered count k xs) (offered-kept count k xs h)

pub sums-kept : (count : ℕ) (left right xs : List Key) → AreKeptKeys count xs → AreKeptKeys count (sums_offered count left right xs)
sums-kept count [] right xs h = h
sums-kept count (x ∷ left) right xs h = sums-kept count left right (all_offered count (map (plus x) right) xs) (all-kept count (map (plus x) right) xs h)

-- ---- offers that cost more than what is there

-- entries in order cost less where the last does
pub cheaper-last : (count c n : ℕ) (xs : List Key) (x : Key) → AllPairs IsBefore xs → length xs ≡ count → n ≡ length xs - 1 → slice_get xs n ≡ Some x → x.0 < c → AreCheaper count c xs
cheaper-last count c n xs x order long last at low = record { full = long; low = λ i d lt. below i d lt (last_or i lt) }
  where
    here : (d : Key) → get_or xs n d ≡ x
    here d = get_or_from_slice_get xs n x d at

    last_or : (i : ℕ) → i < length xs → (i < n) ⊎ (i ≡ n)
    last_or i lt = go (nat_lt i n) refl
      where
        go : (t : Bool) → nat_lt i n ≡ t → (i < n) ⊎ (i ≡ n)
        go true e = inl (grind (arith, nat_tests))
        go false e = inr (let no : n ≤ i = grind (arith, nat_tests) in omega (arith, no, lt, last))

    below : (i : ℕ) (d : Key) → i < length xs → (i < n) ⊎ (i ≡ n) → (get_or xs i d).0 < c
    below i d lt (inl less) =
        let cost = before_cost (get_or xs i d) (get_or xs n d) (order i n d less (slice_get_within xs n x at)) in
        let same : (get_or xs n d).0 ≡ x.0 = ap (λ (y : Key). y.0) (here d) in
        omega (arith, cost, same, low)
    below i d lt (inr same) = subst (λ (y : Key). y.0 < c) (sym (ap (λ j. get_or xs j d) same ∙ here d)) low

cheaper-past : (count c : ℕ) (k : Key) (xs : List Key) → AreCheaper count c xs → c ≤ k.0 → IsPast count k xs
cheaper-past count c k xs h dear = record { full = h.full; before = λ i d lt. let low = h.low i d lt in cheap_before _ k (omega (arith, low, dear)) }

each-dear : (count c : ℕ) (x : Key) (ys xs : List Key) → AreKeptKeys count xs → AreCheaper count c xs → All (λ y. c ≤ x.0 + y.0) ys → all_offered count (map (plus x) ys) xs ≡ xs
each-dear count c x [] xs kept h dear = refl
each-dear count c x (y ∷ ys) xs kept h dear =
    ap (all_offered count (map (plus x) ys)) (offered-past count (plus x y) xs kept (cheaper-past count c (plus x y) xs h (all_head (λ y. c ≤ x.0 + y.0) y ys dear)))
    ∙ each-dear count c x ys xs kept h (all_tail (λ y. c ≤ x.0 + y.0) y ys dear)

sums-dear : (count c : ℕ) (left right xs : List Key) → AreKeptKeys count xs → AreCheaper count c xs → All (λ x. All (λ y. c ≤ x.0 + y.0) right) left → sums_offered count left right xs ≡ xs
sums-dear count c [] right xs kept h dear = refl
sums-dear count c (x ∷ left) right xs kept h dear =
    ap (sums_offered count left right) (each-dear count c x right xs kept h (all_head (λ x. All (λ y. c ≤ x.0 + y.0) right) x left dear))
    ∙ sums-dear count c left right xs kept h (all_tail (λ x. All (λ y. c ≤ x.0 + y.0) right) x left dear)

-- the first of a list in order costs least
least_first : (xs : List Key) (x : Key) → AllPairs IsBefore xs → slice_get xs 0 ≡ Some x → All (λ y. x.0 ≤ y.0) xs
least_first [] x order at = absurd (cc)
least_first (y ∷ ys) x order at =
    let same : x.0 ≡ y.0 = sym (ap (λ (z : Key). z.0) (get_or_from_slice_get (y ∷ ys) 0 x x at)) in
    let after = pairs_head IsBefore y ys order in
    all_cons (λ z. x.0 ≤ z.0) y ys (omega (arith, same)) (λ i d lt. let cost = before_cost y _ (after i d lt) in omega (arith, same, cost))

pub sums-none : (count : ℕ) (left xs : List Key) → sums_offered count left [] xs ≡ xs
sums-none count [] xs = refl
sums-none count (x ∷ left) xs = sums-none count left xs

pub none_first : (xs : List Key) → None ≡ slice_get xs 0 → xs ≡ []
none_first [] h = refl
none_first (x ∷ xs) h = absurd (cc)

-- ---- sums, one on the left after the other

module _ (count : ℕ) (xs : List Key) (i : ℕ) (x : Key) (low : i < length xs) (is : x ≡ get_or xs i x) where
  split : drop i xs ≡ x ∷ drop (i + 1) xs
  split = drop_more xs i x low ∙ ap (λ y. y ∷ drop (i + 1) xs) (sym is)

  pub each-next : (k : Key) (old new : List Key) → new ≡ offered count (plus k x) old → all_offered count (map (plus k) (drop (i + 1) xs)) new ≡ all_offered count (map (plus k) (drop i xs)) old
  each-next k old new e = ap (all_offered count (map (plus k) (drop (i + 1) xs))) e ∙ ap (λ l. all_offered count (map (plus k) l) old) (sym split)

  pub sums-next : (top : Key) (right old new : List Key) → new ≡ all_offered count (map (plus (plus top x)) right) old
      → sums_offered count (map (plus top) (drop (i + 1) xs)) right new ≡ sums_offered count (map (plus top) (drop i xs)) right old
  sums-next top right old new e = ap (sums_offered count (map (plus top) (drop (i + 1) xs)) right) e ∙ ap (λ l. sums_offered count (map (plus top) l) right old) (sym split)

  -- where the sum with the least on the right costs more than what is there, so do all that come after
  pub sums-past : (top y : Key) (right old : List Key) → AllPairs IsBefore xs → AllPairs IsBefore right → slice_get right 0 ≡ Some y → AreKeptKeys count old
      → AreCheaper count ((top.0 + x.0) + y.0) old → sums_offered count (map (plus top) (drop i xs)) right old ≡ old
  sums-past top y right old order rights first kept cheap =
      sums-dear count ((top.0 + x.0) + y.0) (map (plus top) (drop i xs)) right old kept cheap (subst (λ l. All P (map (plus top) l)) (sym split) (dear (x ∷ drop (i + 1) xs) from))
    where
      P : Key → Type 0
      P = λ (z : Key). All (λ (v : Key). (top.0 + x.0) + y.0 ≤ z.0 + v.0) right

      least : All (λ (v : Key). y.0 ≤ v.0) right
      least = least_first right y rights first

      from : All (λ (z : Key). x.0 ≤ z.0) (x ∷ drop (i + 1) xs)
      from = all_cons (λ (z : Key). x.0 ≤ z.0) x (drop (i + 1) xs) (omega arith)
          (λ j d lt. before_cost x _ (pairs_head IsBefore x (drop (i + 1) xs) (subst (AllPairs IsBefore) split (pairs_drop i xs order)) j d lt))

      dear : (zs : List Key) → All (λ (z : Key). x.0 ≤ z.0) zs → All P (map (plus top) zs)
      dear [] h = λ j d lt. absurd (omega (arith, lt))
      dear (z ∷ zs) h =
          let own : x.0 ≤ z.0 = all_head (λ (z : Key). x.0 ≤ z.0) z zs h in
          all_cons P (plus top z) (map (plus top) zs) (λ j d lt. let low = least j d lt in omega (arith, own, low)) (dear zs (all_tail (λ (z : Key). x.0 ≤ z.0) z zs h))
