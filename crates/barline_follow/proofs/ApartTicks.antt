-- What is kept of a list stands at ticks that differ.
use Rattle.std.proofs.Common.{◌≡◌, ℕ, zero, suc, ◌+◌, ◌≤◌, inl, inr, List, [], ◌∷◌, ◌++◌, drop, get_or, length, take, ap, sym, ◌∙◌, subst, arith}
use Rattle.std.specs.Prelude.{AllPairs, Contains, Some, ⊤}
use Rattle.std.specs.Cmp.Lexicographic.{slice_cmp, nat_list_cmp_total}
use Rattle.std.specs.Ordering.{nat_cmp}
use Rattle.std.specs.declared.cmp.Ordering.TheVariants.{Less, Equal}
use Rattle.std.proofs.lemmas.Cmp.{tied_itself}
use Rattle.std.proofs.lemmas.List.{get_or-take, length-append, length-take}
use Rattle.std.proofs.lemmas.List.Elements.{Contains-append_cases, Contains-append_left, Contains-append_right}
use Rattle.std.proofs.lemmas.Option.{get_or_from_slice_get, slice_get-get_or}
use Rattle.rhythm_base.proofs.FirstLists.{contains_split}
use Rattle.rhythm_base.proofs.OrderedLists.{pairs_head, pairs_tail}
use Rattle.barline_follow.specs.Least.{AreFirstLeast, IsFirstLeast}
use Rattle.barline_follow.proofs.FirstLeast.{Before, got_contained, here, later, place_of}
use Rattle.barline_follow.proofs.Gathering.{taken}
use Rattle.barline_follow.proofs.Searching.{in_parts}

-- what is in a list and is not the one at a place is elsewhere in it
elsewhere_in : {Y : Type 0} (front back : List Y) (a b : Y) → Contains (front ++ (a ∷ back)) b → (a ≡ b → ⊥) → Contains (front ++ back) b
elsewhere_in front back a b c differ = elim (Contains-append_cases front (a ∷ back) b c) [
  | inl before ↦ Contains-append_left front back b before
  | inr rest ↦ elim (contains_split b a back rest) [ inl same ↦ absurd (differ same) | inr further ↦ Contains-append_right front back b further ]
]

module _ {X Y : Type 0} (tick : X → Y) where
  -- no two of them stand at one tick
  abbrev pub AreApart : List X → Type 0
  AreApart [] = ⊤
  AreApart (x ∷ xs) = ((y : X) → Contains xs y → tick x ≡ tick y → ⊥) × AreApart xs

  pub apart_take : (n : ℕ) (xs : List X) → AreApart xs → AreApart (take n xs)
  apart_take zero xs apart = tt
  apart_take (suc n) [] apart = tt
  apart_take (suc n) (x ∷ xs) apart = ((λ y c. apart.0 y (taken n xs y c)), apart_take n xs apart.1)

  pub one_at_tick : (xs : List X) → AreApart xs → (x y : X) → Contains xs x → Contains xs y → tick x ≡ tick y → x ≡ y
  one_at_tick [] apart x y c d same = absurd (omega (arith, c.1))
  one_at_tick (z ∷ xs) apart x y c d same = elim (contains_split x z xs c) [
    | inl first ↦ elim (contains_split y z xs d) [ inl too ↦ sym first ∙ too | inr rest ↦ absurd (apart.0 y rest (ap tick first ∙ same)) ]
    | inr rest ↦ elim (contains_split y z xs d) [
      | inl too ↦ absurd (apart.0 x rest (ap tick too ∙ sym same))
      | inr others ↦ one_at_tick xs apart.1 x y rest others same
    ]
  ]

  -- they are no more than the ticks that they stand at
  pub no_more : (xs : List X) (ticks : List Y) → AreApart xs → ((x : X) → Contains xs x → Contains ticks (tick x)) → length xs ≤ length ticks
  no_more [] ticks apart all = omega arith
  no_more (x ∷ xs) ticks apart all =
      let own = all x (here x xs) in
      let front : List Y = take own.0 ticks in
      let back : List Y = drop (own.0 + 1) ticks in
      let parts : ticks ≡ front ++ (tick x ∷ back) = in_parts ticks own.0 (tick x) own.1 ∙ ap (λ t. front ++ (t ∷ back)) own.2 in
      let rest : length xs ≤ length (front ++ back) =
      no_more xs (front ++ back) apart.1
      (λ y c. elsewhere_in front back (tick x) (tick y) (subst (λ l. Contains l (tick y)) parts (all y (later x y xs c))) (apart.0 y c)) in
      omega (arith, rest, ap length parts, length-append front (tick x ∷ back), length-append front back)

module _ {X : Type 0} (value tick : X → ℕ) where
  pub not_before : (x y : X) → value x ≡ value y → tick x ≡ tick y → Before value tick x y → ⊥
  not_before x y values ticks before =
      let places : place_of value tick x ≡ place_of value tick y = λ i. values i ∷ ticks i ∷ [] in
      let tied : slice_cmp nat_cmp (place_of value tick y) (place_of value tick y) ≡ Equal = tied_itself nat_list_cmp_total (place_of value tick y) in
      let wrong : Less ≡ Equal = sym before ∙ ap (λ l. slice_cmp nat_cmp l (place_of value tick y)) places ∙ tied in
      absurd (cc)

  firsts_apart : (xs kept : List X) → ((x : X) → Contains kept x → IsFirstLeast value tick xs x) → AllPairs (Before value tick) kept → AreApart tick kept
  firsts_apart xs [] firsts up = tt
  firsts_apart xs (x ∷ kept) firsts up = (
    λ y c same.
        let one = firsts x (here x kept) in
        let other = firsts y (later x y kept c) in
        let low = one.least y (got_contained xs other.place y other.there) (sym same) in
        let high = other.least x (got_contained xs one.place x one.there) same in
        let before = subst (Before value tick x) c.2 (pairs_head (Before value tick) x kept up c.0 y c.1) in
        not_before x y (omega (arith, low, high)) same before,
    firsts_apart xs kept (λ y c. firsts y (later x y kept c)) (pairs_tail (Before value tick) x kept up),
  )

  pub kept_apart : (xs kept : List X) → AreFirstLeast value tick xs kept → AreApart tick kept
  kept_apart xs kept h = firsts_apart xs kept (λ x c. (h.exactly x).0 c) h.in_order

  -- such a list keeps all of itself
  pub keeps_itself : (xs : List X) → AllPairs (Before value tick) xs → AreApart tick xs → AreFirstLeast value tick xs xs
  keeps_itself xs up apart = record {
    in_order = up;
    exactly = λ x. (
      λ c. record {
        place = c.0;
        there = slice_get-get_or xs c.0 x c.1 ∙ ap Some c.2;
        first = λ i y lt got same.
            let other : get_or xs i x ≡ y = get_or_from_slice_get xs i y x got in
            let before = subst (λ z. Before value tick z x) other (subst (Before value tick (get_or xs i x)) c.2 (up i c.0 x lt c.1)) in
            absurd (not_before y x (ap value (one_at_tick tick xs apart y x (got_contained xs i y got) c same)) same before);
        least = λ y d same. let eq : value y ≡ value x = ap value (one_at_tick tick xs apart y x d c same) in omega (arith, eq);
      },
      λ is. got_contained xs is.place x is.there,
    );
  }

  pub pairs_take : (n : ℕ) (xs : List X) → AllPairs (Before value tick) xs → AllPairs (Before value tick) (take n xs)
  pairs_take n xs up i j d lt within =
      let long = length-take n xs in
      subst (λ y. Before value tick (get_or (take n xs) i d) y) (sym (get_or-take n xs j d (omega (arith, within, long))))
      (subst (λ x. Before value tick x (get_or xs j d)) (sym (get_or-take n xs i d (omega (arith, lt, within, long))))
      (up i j d lt (omega (arith, within, long))))
