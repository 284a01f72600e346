-- Lists in the order of places: the order of a filtered list, and of a list with one more at its place.
use Rattle.std.proofs.Common.{◌≡◌, ℕ, zero, suc, Bool, true, false, not, List, [], ◌∷◌, ◌++◌, get_or, refl, ap, arith, ◌+◌, ◌<◌, subst, ◌≤◌, inl, inr}
use Rattle.std.specs.Cmp.Lexicographic.{slice_cmp, nat_list_cmp_total}
use Rattle.std.specs.Ordering.{nat_cmp, is_lt}
use Rattle.std.specs.Prelude.{All, AllPairs, filter, slice_index}
use Rattle.std.specs.declared.cmp.Ordering.TheVariants.{Less, Equal, Greater}
use Rattle.std.specs.declared.cmp.Ordering.{Ordering}
use Rattle.std.proofs.lemmas.List.Elements.{All-append, All-filter, filter_passes}
use Rattle.std.proofs.lemmas.List.Kept.{AllPairs-cons, AllPairs-filter}
use Rattle.std.proofs.lemmas.Bool.{not-true, cases_order}
use Rattle.rhythm_base.specs.Lists.{list_with, AreInOrder, earlier}
use Rattle.rhythm_base.proofs.TotalOrders.{above, before_above, both_above, list_equal}
use Rattle.std.specs.List.Sorted.{IsStrictlyIncreasing}
use Rattle.std.specs.Cmp.{nat_cmp_is}
use Rattle.rhythm_base.specs.declared.note.Note.{Note}
use Rattle.rhythm_base.specs.Performance.{place_of_note}

-- ---- each and each later one

module _ {X : Type 0} (R : X → X → Type 0) where
  pub pairs_head : (x : X) (xs : List X) → AllPairs R (x ∷ xs) → All (R x) xs
  pairs_head x xs h k d lt = h 0 (suc k) d (omega arith) (omega arith)

  pub pairs_tail : (x : X) (xs : List X) → AllPairs R (x ∷ xs) → AllPairs R xs
  pairs_tail x xs h i j d lt within = h (suc i) (suc j) d (omega arith) (omega arith)

module _ {X : Type 0} (P : X → Type 0) where
  pub all_head : (x : X) (xs : List X) → All P (x ∷ xs) → P x
  all_head x xs h = h 0 x (omega arith)

  pub all_cons : (x : X) (xs : List X) → P x → All P xs → All P (x ∷ xs)
  all_cons x xs p h zero d lt = p
  all_cons x xs p h (suc k) d lt = h k d (omega arith)

  pub all_tail : (x : X) (xs : List X) → All P (x ∷ xs) → All P xs
  all_tail x xs h k d lt = h (suc k) d (omega arith)

module _ {X : Type 0} (R : X → X → Type 0) where
  pub pairs_nil : AllPairs R []
  pairs_nil i j d lt within = absurd (omega arith)

  -- two such lists, where each element of the first goes with each of the second
  pub pairs_append : (xs ys : List X) → AllPairs R xs → AllPairs R ys → All (λ x. All (R x) ys) xs → AllPairs R (xs ++ ys)
  pairs_append [] ys h k across = k
  pairs_append (x ∷ xs) ys h k across =
      AllPairs-cons R x (xs ++ ys)
      (All-append (R x) xs ys (pairs_head R x xs h) (all_head (λ x. All (R x) ys) x xs across))
      (pairs_append xs ys (pairs_tail R x xs h) k (all_tail (λ x. All (R x) ys) x xs across))

-- ---- the order of places

pub is_less : (r : Ordering) → is_lt r ≡ true → r ≡ Less
is_less Less h = refl
is_less Equal h = absurd (cc)
is_less Greater h = absurd (cc)

by_less : (r : Ordering) → r ≡ Less → is_lt r ≡ true
by_less r h = ap is_lt h

through : (a b c : List ℕ) → earlier a b ≡ true → earlier b c ≡ true → (t : Bool) → earlier a c ≡ t → t ≡ true
through a b c h k true is = refl
through a b c h k false is =
    let back = before_above nat_list_cmp_total a b h in
    let wrong = above nat_list_cmp_total b a c back is in
    absurd (cc)

-- before the one and after the other
pub goes_through : (a b c : List ℕ) → earlier a b ≡ true → earlier b c ≡ true → earlier a c ≡ true
goes_through a b c h k = through a b c h k (earlier a c) refl

-- of two places that differ one is earlier
one_way : (a b : List ℕ) → earlier a b ≡ false → (a ≡ b → ⊥) → (t : Bool) → earlier b a ≡ t → t ≡ true
one_way a b h differ true is = refl
one_way a b h differ false is = absurd (differ (list_equal a b (both_above nat_list_cmp_total a b h is)))

pub other_way : (a b : List ℕ) → earlier a b ≡ false → (a ≡ b → ⊥) → earlier b a ≡ true
other_way a b h differ = one_way a b h differ (earlier b a) refl

module _ {X : Type 0} (place : X → List ℕ) where
  abbrev Before : X → X → Type 0
  Before x y = slice_cmp nat_cmp (place x) (place y) ≡ Less

  abbrev is_before : X → X → Bool
  is_before x y = earlier (place y) (place x)

  abbrev is_not_before : X → X → Bool
  is_not_before x y = not (is_before x y)

  abbrev Differs : X → X → Type 0
  Differs x y = place y ≡ place x → ⊥

  -- what stands after x in a list without its place
  after : (x y : X) → is_not_before x y ≡ true → Differs x y → Before x y
  after x y h differ = is_less _ (other_way (place y) (place x) (not-true (is_before x y) h) differ)

  -- what stands before x stands before all that x does
  all_after : (x y : X) (xs : List X) → is_before x y ≡ true → All (Before x) xs → All (Before y) (x ∷ xs)
  all_after x y xs h lasts =
      all_cons (Before y) x xs (is_less _ h)
      (λ k d lt. is_less _ (goes_through (place y) (place x) (place (get_or xs k d)) h (by_less _ (lasts k d lt))))

  -- a list in order, with one more at its place, is in order
  pub put_in_order : (x : X) (xs : List X) → AreInOrder place xs → All (Differs x) xs → AreInOrder place (list_with place x xs)
  put_in_order x xs h differ =
      let P : X → Bool = is_before x in
      let Q : X → Bool = is_not_before x in
      let firsts : All (λ y. is_before x y ≡ true) (filter P xs) = filter_passes P xs in
      let lasts : All (Before x) (filter Q xs) =
      λ k d lt. after x (get_or (filter Q xs) k d) (filter_passes Q xs k d lt) (All-filter Q (Differs x) xs differ k d lt) in
      pairs_append Before (filter P xs) (x ∷ filter Q xs)
      (AllPairs-filter Before P xs h)
      (AllPairs-cons Before x (filter Q xs) lasts (AllPairs-filter Before Q xs h))
      (λ k d lt. all_after x (get_or (filter P xs) k d) (filter Q xs) (firsts k d lt) lasts)

  -- whatever holds of the list and of one more holds of the list with it
  pub All-put : (P : X → Type 0) (x : X) (xs : List X) → P x → All P xs → All P (list_with place x xs)
  All-put P x xs p h =
      All-append P (filter (is_before x) xs) (x ∷ filter (is_not_before x) xs) (All-filter (is_before x) P xs h)
      (all_cons P x (filter (is_not_before x) xs) p (All-filter (is_not_before x) P xs h))

-- numbers that rise do so from the second on
pub rise_later : (x : ℕ) (xs : List ℕ) → IsStrictlyIncreasing (x ∷ xs) → IsStrictlyIncreasing xs
rise_later x xs up k lt =
    let moved : suc k + 1 ≡ suc (k + 1) = omega arith in
    subst (λ n. slice_index xs k < slice_index (x ∷ xs) n) moved (up (suc k) (omega (arith, lt)))

-- of two notes in order the later one has no lower channel
pub channel_low : (m n : Note) → slice_cmp nat_cmp (place_of_note m) (place_of_note n) ≡ Less → m.channel ≤ n.channel
channel_low m n h =
    elim (cases_order m.channel n.channel) [
      | inl same ↦ omega (arith, same)
      | inr other ↦ elim other [
        | inl less ↦ omega (arith, less)
        | inr back ↦ let greater : Greater ≡ nat_cmp m.channel n.channel = nat_cmp_is m.channel n.channel Greater back in absurd (cc)
      ]
    ]
