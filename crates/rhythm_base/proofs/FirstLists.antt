-- The first elements of a set, by an order: they are one list, and so are lists in order that have the same elements.
use Rattle.std.proofs.Common.{◌≡◌, ℕ, zero, suc, ◌+◌, ◌≤◌, ◌⊎◌, inl, inr, List, [], ◌∷◌, length, refl, sym, subst, ap, arith}
use Rattle.std.specs.Prelude.{All, AllPairs, Contains, ℕ}
use Rattle.std.specs.Cmp.{IsTotalOrder}
use Rattle.std.specs.Ordering.{is_lt}
use Rattle.std.specs.declared.cmp.Ordering.{Ordering}
use Rattle.std.specs.declared.cmp.Ordering.TheVariants.{Less}
use Rattle.std.proofs.lemmas.List.Elements.{All-contains_itself}
use Rattle.rhythm_base.proofs.TotalOrders.{before_above}
use Rattle.rhythm_base.proofs.OrderedLists.{all_head, all_tail, pairs_head, pairs_tail}

-- of two that differ at most one is earlier
pub one_earlier : {K : Type 0} {R : K → K → Ordering} (o : IsTotalOrder R) (x y : K) → R x y ≡ Less → R y x ≡ Less → ⊥
one_earlier o x y h k =
    let no = before_above o x y (ap is_lt h) in
    let yes = ap is_lt k in
    absurd (cc)

module _ {X : Type 0} where
  pub contains_split : (x y : X) (ys : List X) → Contains (y ∷ ys) x → (y ≡ x) ⊎ Contains ys x
  contains_split x y ys (zero, lt, is) = inl is
  contains_split x y ys (suc k, lt, is) = inr (k, omega (arith, lt), is)

  pub all_contained : (P : X → Type 0) (xs : List X) (x : X) → All P xs → Contains xs x → P x
  all_contained P xs x all c = subst P c.2 (all c.0 x c.1)

  contains_first : (x : X) (xs : List X) → Contains (x ∷ xs) x
  contains_first x xs = (zero, omega arith, refl)

  contains_later : (x y : X) (ys : List X) → Contains ys x → Contains (y ∷ ys) x
  contains_later x y ys c = (suc c.0, omega (arith, c.1), c.2)

module _ {X : Type 0} (E : X → X → Type 0) (apart : (x y : X) → E x y → E y x → ⊥) where
  -- the first `count` elements of S in order, or all where there are no more
  pub record AreFirst (S : X → Type 0) (count : ℕ) (xs : List X) : Type 0 where
    pub are : All S xs
    pub in_order : AllPairs E xs
    pub few : length xs ≤ count
    pub first : (a : X) → S a → Contains xs a ⊎ ((length xs ≡ count) × All (λ b. E b a) xs)

  -- an element is the first one, or after it
  heads : (S : X → Type 0) (count : ℕ) (x : X) (xs : List X) (a : X) → AreFirst S count (x ∷ xs) → S a → (x ≡ a) ⊎ E x a
  heads S count x xs a h s = elim (h.first a s) [
    | inl there ↦ elim (contains_split a x xs there) [
      | inl same ↦ inl same
      | inr later ↦ inr (all_contained (E x) xs a (pairs_head E x xs h.in_order) later)
    ]
    | inr full ↦ inr (all_head (λ b. E b a) x xs full.1)
  ]

  -- those after the first are the first of those after it
  tails : (S : X → Type 0) (count : ℕ) (x : X) (xs : List X) → AreFirst S (suc count) (x ∷ xs) → AreFirst (λ a. S a × E x a) count xs
  tails S count x xs h =
      let after = pairs_head E x xs h.in_order in
      let all = all_tail S x xs h.are in
      record {
        are = λ k d lt. (all k d lt, after k d lt);
        in_order = pairs_tail E x xs h.in_order;
        few = omega (arith, h.few);
        first = λ a s. elim (h.first a s.0) [
          | inl there ↦ elim (contains_split a x xs there) [
            | inl same ↦ absurd (apart x a s.1 (subst (λ z. E z x) same (subst (λ z. E x z) (sym same) s.1)))
            | inr later ↦ inl later
          ]
          | inr full ↦ inr (omega (arith, full.0), all_tail (λ b. E b a) x xs full.1)
        ];
      }

  pub one_first : (S : X → Type 0) (count : ℕ) (xs ys : List X) → AreFirst S count xs → AreFirst S count ys → xs ≡ ys
  one_first S count [] [] h k = refl
  one_first S count [] (y ∷ ys) h k = elim (h.first y (all_head S y ys k.are)) [
    | inl there ↦ absurd (omega (arith, there.1))
    | inr full ↦ absurd (omega (arith, full.0, k.few))
  ]
  one_first S count (x ∷ xs) [] h k = elim (k.first x (all_head S x xs h.are)) [
    | inl there ↦ absurd (omega (arith, there.1))
    | inr full ↦ absurd (omega (arith, full.0, h.few))
  ]
  one_first S zero (x ∷ xs) (y ∷ ys) h k = absurd (omega (arith, h.few))
  one_first S (suc count) (x ∷ xs) (y ∷ ys) h k =
      λ i. same i ∷ one_first (λ a. S a × E x a) count xs ys (tails S count x xs h) (subst (λ z. AreFirst (λ a. S a × E z a) count ys) (sym same) (tails S count y ys k)) i
    where
      meet : (x ≡ y) ⊎ E x y → (y ≡ x) ⊎ E y x → x ≡ y
      meet (inl e) b = e
      meet (inr a) (inl e) = sym e
      meet (inr a) (inr b) = absurd (apart x y a b)

      same : x ≡ y
      same = meet (heads S (suc count) x xs y h (all_head S y ys k.are)) (heads S (suc count) y ys x k (all_head S x xs h.are))

  -- lists in order with the same elements
  pub one_order : (xs ys : List X) → AllPairs E xs → AllPairs E ys → ((x : X) → Contains xs x → Contains ys x) → ((x : X) → Contains ys x → Contains xs x) → xs ≡ ys
  one_order xs ys p q f g =
      one_first (Contains xs) (length xs + length ys) xs ys
      record { are = All-contains_itself xs; in_order = p; few = omega arith; first = λ a s. inl s }
      record { are = λ k d lt. g _ (All-contains_itself ys k d lt); in_order = q; few = omega arith; first = λ a s. inl (f a s) }
