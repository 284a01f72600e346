-- The first list of borders that costs least, among all lists.
use Rattle.std.proofs.Common.{◌≡◌, ℕ, zero, suc, ◌+◌, ◌<◌, ◌≤◌, ◌⊎◌, Bool, true, false, cond, List, [], ◌∷◌, length, map, refl, sym, ap, ◌∙◌, subst, inl, inr, arith}
use Rattle.std.specs.Prelude.{◌≢◌, nat_lt}
use Rattle.std.specs.List.{best_of, flat_map, range_with_len}
use Rattle.std.specs.Ordering.{nat_cmp}
use Rattle.std.specs.Cmp.Lexicographic.{slice_cmp}
use Rattle.std.specs.declared.cmp.Ordering.TheVariants.{Less}
use Rattle.std.proofs.lemmas.Bool.{cases_order}
use Rattle.std.proofs.lemmas.Bool.Decides.{nat_tests}
use Rattle.rhythm_base.proofs.Members.{Among, Pairwise, among_flat, among_map, from_flat, from_map, pairs_join, pairs_map}
use Rattle.hand_borders.specs.Borders.{AreBorders, IsLeastBorders, all_borders, cost_of, first_least, least_borders}
use Rattle.hand_borders.specs.Laws as laws

-- ---- the order of words

abbrev Before : List ℕ → List ℕ → Type 0
Before xs ys = slice_cmp nat_cmp xs ys ≡ Less

before_tail : (x : ℕ) (xs ys : List ℕ) → Before xs ys → Before (x ∷ xs) (x ∷ ys)
before_tail x xs ys h = grind (arith, nat_tests)

before_head : (x y : ℕ) (xs ys : List ℕ) → x < y → Before (x ∷ xs) (y ∷ ys)
before_head x y xs ys lt = grind (arith, nat_tests)

not_itself : (xs : List ℕ) → slice_cmp nat_cmp xs xs ≢ Less
not_itself [] h = cc
not_itself (x ∷ xs) h = not_itself xs (grind (arith, nat_tests))

not_both : (xs ys : List ℕ) → Before xs ys → Before ys xs → ⊥
not_both [] [] h k = cc
not_both [] (y ∷ ys) h k = cc
not_both (x ∷ xs) [] h k = cc
not_both (x ∷ xs) (y ∷ ys) h k = elim (cases_order x y) [
  | inl e ↦ not_both xs ys (grind (arith, nat_tests)) (grind (arith, nat_tests))
  | inr other ↦ elim other [
    | inl lt ↦ absurd (grind (arith, nat_tests))
    | inr gt ↦ absurd (grind (arith, nat_tests))
  ]
]

-- lists as long, of which neither is before the other, are one
same_list : (gs : List (List ℕ)) (xs ys : List ℕ) → AreBorders gs xs → AreBorders gs ys → slice_cmp nat_cmp xs ys ≢ Less
    → slice_cmp nat_cmp ys xs ≢ Less → xs ≡ ys
same_list [] xs ys h k less more = h ∙ sym k
same_list (g ∷ gs) [] ys h k less more = absurd h
same_list (g ∷ gs) (x ∷ xs) [] h k less more = absurd k
same_list (g ∷ gs) (x ∷ xs) (y ∷ ys) h k less more = elim (cases_order x y) [
  | inl e ↦ (
      let rest : xs ≡ ys =
      same_list gs xs ys h.1 k.1 (λ b. less (subst (λ z. Before (x ∷ xs) (z ∷ ys)) e (before_tail x xs ys b)))
      (λ b. more (subst (λ z. Before (z ∷ ys) (x ∷ xs)) e (before_tail x ys xs b))) in
      λ i. e i ∷ rest i
      )
  | inr other ↦ elim other [
    | inl lt ↦ absurd (less (before_head x y xs ys lt))
    | inr gt ↦ absurd (more (before_head y x ys xs gt))
  ]
]

pub are_one : laws.LeastBordersAreOne
are_one groups some others h k =
    let low = h.least others k.are in
    let high = k.least some h.are in
    let same : cost_of groups some ≡ cost_of groups others = omega (arith, low, high) in
    same_list groups some others h.are k.are (k.first some h.are same) (h.first others k.are (sym same))

-- ---- all numbers from one on

among_range : (a n x : ℕ) → a ≤ x → x < a + n → Among x (range_with_len a n)
among_range a zero x low high = absurd (omega arith)
among_range a (suc n) x low high = elim (cases_order a x) [
  | inl e ↦ inl (sym e)
  | inr other ↦ elim other [
    | inl lt ↦ inr (among_range (a + 1) n x (omega arith) (omega arith))
    | inr gt ↦ absurd (omega arith)
  ]
]

pub range_among : (a n x : ℕ) → Among x (range_with_len a n) → (a ≤ x) × (x < a + n)
range_among a zero x h = absurd h
range_among a (suc n) x (inl e) = (omega (arith, e), omega (arith, e))
range_among a (suc n) x (inr h) = let r = range_among (a + 1) n x h in (omega (arith, r.0), omega (arith, r.1))

range_rises : (a n : ℕ) → Pairwise (λ x y. x < y) (range_with_len a n)
range_rises a zero = tt
range_rises a (suc n) = ((λ y h. let r = range_among (a + 1) n y h in omega (arith, r.0)), range_rises (a + 1) n)

-- ---- all lists of borders

all_are : (gs : List (List ℕ)) (xs : List ℕ) → Among xs (all_borders (length gs)) → AreBorders gs xs
all_are [] xs (inl e) = e
all_are [] xs (inr h) = absurd h
all_are (g ∷ gs) xs h =
    let f = from_flat (λ b. map (λ borders. b ∷ borders) (all_borders (length gs))) (range_with_len 0 129) xs h in
    let m = from_map (λ borders. f.0 ∷ borders) (all_borders (length gs)) xs f.2 in
    let r = range_among 0 129 f.0 f.1 in
    subst (AreBorders (g ∷ gs)) (sym m.2) (r.1, all_are gs m.0 m.1)

all_there : (gs : List (List ℕ)) (xs : List ℕ) → AreBorders gs xs → Among xs (all_borders (length gs))
all_there [] xs e = inl e
all_there (g ∷ gs) [] h = absurd h
all_there (g ∷ gs) (x ∷ xs) h =
    among_flat (λ b. map (λ borders. b ∷ borders) (all_borders (length gs))) (range_with_len 0 129) x (x ∷ xs)
    (among_range 0 129 x (omega arith) (omega (arith, h.0)))
    (among_map (λ borders. x ∷ borders) (all_borders (length gs)) xs (all_there gs xs h.1))

in_order : (n : ℕ) → Pairwise Before (all_borders n)
in_order zero = ((λ y h. absurd h), tt)
in_order (suc n) = every (in_order n) (range_with_len 0 129) (range_rises 0 129)
  where
    every : Pairwise Before (all_borders n) → (bs : List ℕ) → Pairwise (λ x y. x < y) bs
        → Pairwise Before (flat_map (λ b. map (λ borders. b ∷ borders) (all_borders n)) bs)
    every lists [] h = tt
    every lists (b ∷ bs) h =
        pairs_join Before (map (λ borders. b ∷ borders) (all_borders n)) (flat_map (λ b. map (λ borders. b ∷ borders) (all_borders n)) bs)
        (pairs_map Before Before (λ borders. b ∷ borders) (all_borders n) (λ x y r. before_tail b x y r) lists) (every lists bs h.1)
        (λ x y ax ay.
        let m = from_map (λ borders. b ∷ borders) (all_borders n) x ax in
        let f = from_flat (λ b. map (λ borders. b ∷ borders) (all_borders n)) bs y ay in
        let k = from_map (λ borders. f.0 ∷ borders) (all_borders n) y f.2 in
        subst (λ u. Before u y) (sym m.2) (subst (Before (b ∷ m.0)) (sym k.2) (before_head b f.0 m.0 k.0 (h.0 f.0 f.1))))

-- ---- the first of the least

module _ (cost : List ℕ → ℕ) where
  abbrev Best : List ℕ → List (List ℕ) → List ℕ
  Best a xs = best_of (λ x y. nat_lt (cost x) (cost y)) a xs

  record IsFirstLeast (best : List ℕ) (xs : List (List ℕ)) : Type 0 where
    there : Among best xs
    least : (x : List ℕ) → Among x xs → cost best ≤ cost x
    first : (x : List ℕ) → Among x xs → cost x ≡ cost best → (x ≡ best) ⊎ Before best x

  best_first : (a : List ℕ) (xs : List (List ℕ)) → Pairwise Before (a ∷ xs) → IsFirstLeast (Best a xs) (a ∷ xs)
  best_first a [] h = record {
    there = inl refl;
    least = λ x am. one x am;
    first = λ x am e. same x am;
  }
    where
      one : (x : List ℕ) → Among x (a ∷ []) → cost a ≤ cost x
      one x (inl e) = subst (λ y. cost a ≤ cost y) (sym e) (omega arith)
      one x (inr am) = absurd am

      same : (x : List ℕ) → Among x (a ∷ []) → (x ≡ a) ⊎ Before a x
      same x (inl e) = inl e
      same x (inr am) = absurd am
  best_first a (x ∷ xs) h = go (nat_lt (cost x) (cost a)) refl (best_first x xs h.1) (best_first a xs ((λ y am. h.0 y (inr am)), h.1.1))
    where
      go : (b : Bool) → nat_lt (cost x) (cost a) ≡ b → IsFirstLeast (Best x xs) (x ∷ xs) → IsFirstLeast (Best a xs) (a ∷ xs)
          → IsFirstLeast (Best (cond b x a) xs) (a ∷ x ∷ xs)
      go true e with_x with_a = later with_x (grind (arith, nat_tests))
        where
          later : IsFirstLeast (Best x xs) (x ∷ xs) → cost x < cost a → IsFirstLeast (Best x xs) (a ∷ x ∷ xs)
          later k lt = record {
            there = inr k.there;
            least = λ y am. low y am;
            first = λ y am e. lowest y am e;
          }
            where
              low : (y : List ℕ) → Among y (a ∷ x ∷ xs) → cost (Best x xs) ≤ cost y
              low y (inl e) = let l = k.least x (inl refl) in subst (λ z. cost (Best x xs) ≤ cost z) (sym e) (omega (arith, l, lt))
              low y (inr am) = k.least y am

              lowest : (y : List ℕ) → Among y (a ∷ x ∷ xs) → cost y ≡ cost (Best x xs) → (y ≡ Best x xs) ⊎ Before (Best x xs) y
              lowest y (inl e) s = let l = k.least x (inl refl) in let c : cost y ≡ cost a = ap cost e in
                  absurd (omega (arith, l, lt, c, s))
              lowest y (inr am) s = k.first y am s
      go false e with_x with_a = later with_a (grind (arith, nat_tests))
        where
          later : IsFirstLeast (Best a xs) (a ∷ xs) → cost a ≤ cost x → IsFirstLeast (Best a xs) (a ∷ x ∷ xs)
          later k le = record {
            there = there k.there;
            least = λ y am. low y am;
            first = λ y am e. lowest y am e;
          }
            where
              there : Among (Best a xs) (a ∷ xs) → Among (Best a xs) (a ∷ x ∷ xs)
              there (inl e) = inl e
              there (inr am) = inr (inr am)

              low : (y : List ℕ) → Among y (a ∷ x ∷ xs) → cost (Best a xs) ≤ cost y
              low y (inl e) = k.least y (inl e)
              low y (inr (inl e)) = let l = k.least a (inl refl) in subst (λ z. cost (Best a xs) ≤ cost z) (sym e) (omega (arith, l, le))
              low y (inr (inr am)) = k.least y (inr am)

              -- what costs as much as the best stands behind it
              behind : Among (Best a xs) (a ∷ xs) → cost x ≡ cost (Best a xs) → cost (Best a xs) ≤ cost a → Before (Best a xs) x
              behind (inl is) s l = subst (λ z. Before z x) (sym is) (h.0 x (inl refl))
              behind (inr am) s l = elim (k.first a (inl refl) (omega (arith, s, l, le))) [
                | inl same ↦ subst (λ z. Before z x) same (h.0 x (inl refl))
                | inr before ↦ absurd (not_both (Best a xs) a before (h.0 (Best a xs) (inr am)))
              ]

              lowest : (y : List ℕ) → Among y (a ∷ x ∷ xs) → cost y ≡ cost (Best a xs) → (y ≡ Best a xs) ⊎ Before (Best a xs) y
              lowest y (inl e) s = k.first y (inl e) s
              lowest y (inr (inl e)) s =
                  inr (subst (Before (Best a xs)) (sym e) (behind k.there (sym (ap cost e) ∙ s) (k.least a (inl refl))))
              lowest y (inr (inr am)) s = k.first y (inr am) s

pub are_least : laws.LeastBordersAreLeast
unfolding least_borders
are_least groups = go (all_borders (length groups)) (all_are groups) (all_there groups) (in_order (length groups)) (some (length groups))
  where
    some : (n : ℕ) → (a : List ℕ) × Among a (all_borders n)
    some zero = ([], inl refl)
    some (suc n) = let rest = some n in (
      0 ∷ rest.0,
      among_flat (λ b. map (λ borders. b ∷ borders) (all_borders n)) (range_with_len 0 129) 0 (0 ∷ rest.0)
          (among_range 0 129 0 (omega arith) (omega arith)) (among_map (λ borders. 0 ∷ borders) (all_borders n) rest.0 rest.1),
    )

    go : (lists : List (List ℕ)) → ((xs : List ℕ) → Among xs lists → AreBorders groups xs)
        → ((xs : List ℕ) → AreBorders groups xs → Among xs lists) → Pairwise Before lists
        → (a : List ℕ) × Among a lists → IsLeastBorders groups (first_least groups lists)
    go [] are there order any = absurd any.1
    go (a ∷ lists) are there order any =
        let k = best_first (cost_of groups) a lists order in
        record {
          are = are (first_least groups (a ∷ lists)) k.there;
          least = λ others h. k.least others (there others h);
          first = λ others h e less. (elim (k.first others (there others h) e) [
            | inl same ↦ not_itself others (subst (λ z. Before others z) (sym same) less)
            | inr before ↦ not_both (first_least groups (a ∷ lists)) others before less
          ]);
        }
