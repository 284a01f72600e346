-- The first of least value at each tick, with one more at the end.
use Rattle.std.proofs.Common.{◌≡◌, ℕ, zero, suc, ◌+◌, ◌<◌, ◌≤◌, ◌⊎◌, inl, inr, Bool, true, false, not, nat_eq, List, [], ◌∷◌, ◌++◌, length, get_or, refl, ap, sym, ◌∙◌, subst, arith}
use Rattle.std.specs.Prelude.{Contains, Some, filter, slice_get}
use Rattle.std.specs.Cmp.Lexicographic.{slice_cmp}
use Rattle.std.specs.Ordering.{nat_cmp}
use Rattle.std.specs.declared.cmp.Ordering.TheVariants.{Less}
use Rattle.std.proofs.lemmas.Bool.{cases_eq, cases_lt, eq-eqb, ne_eqb}
use Rattle.std.proofs.lemmas.List.Elements.{Contains-append_cases, Contains-append_left, Contains-append_right, filter_passes}
use Rattle.std.proofs.lemmas.List.{length_push}
use Rattle.std.proofs.lemmas.List.Kept.{AllPairs-filter}
use Rattle.rhythm_base.specs.Lists.{earlier, list_with}
use Rattle.rhythm_base.proofs.FirstLists.{contains_split}
use Rattle.rhythm_base.proofs.OrderedLists.{put_in_order}
use Rattle.barline_follow.specs.Least.{AreFirstLeast, IsFirstLeast}

-- ---- members

module _ {X : Type 0} where
  pub here : (x : X) (xs : List X) → Contains (x ∷ xs) x
  here x xs = (zero, omega arith, refl)

  pub later : (y x : X) (xs : List X) → Contains xs x → Contains (y ∷ xs) x
  later y x xs c = (suc c.0, omega (arith, c.1), c.2)

  pub none_contained : (x : X) → Contains {X = X} [] x → ⊥
  none_contained x c = omega (arith, c.1)

  pub got_contained : (xs : List X) (i : ℕ) (x : X) → slice_get xs i ≡ Some x → Contains xs x
  got_contained [] i x h = absurd (cc)
  got_contained (y ∷ xs) zero x h = let same : y ≡ x = cc in subst (Contains (y ∷ xs)) same (here y xs)
  got_contained (y ∷ xs) (suc i) x h = later y x xs (got_contained xs i x h)

  pub got_within : (xs : List X) (i : ℕ) (x : X) → slice_get xs i ≡ Some x → i < length xs
  got_within [] i x h = absurd (cc)
  got_within (y ∷ xs) zero x h = omega arith
  got_within (y ∷ xs) (suc i) x h = let w = got_within xs i x h in omega (arith, w)

  pub got_left : (xs ys : List X) (i : ℕ) → i < length xs → slice_get (xs ++ ys) i ≡ slice_get xs i
  got_left [] ys i lt = absurd (omega (arith, lt))
  got_left (x ∷ xs) ys zero lt = refl
  got_left (x ∷ xs) ys (suc i) lt = got_left xs ys i (omega (arith, lt))

  pub got_last : (xs : List X) (x : X) → slice_get (xs ++ (x ∷ [])) (length xs) ≡ Some x
  got_last [] x = refl
  got_last (y ∷ xs) x = got_last xs x

  module _ (p : X → Bool) where
    pub from_filtered : (xs : List X) (x : X) → Contains (filter p xs) x → Contains xs x
    from_filtered [] x c = c
    from_filtered (y ∷ xs) x c = at (p y) refl (from_filtered xs x)
      where
        at : (b : Bool) → p y ≡ b → (Contains (filter p xs) x → Contains xs x) → Contains (y ∷ xs) x
        at true is rest_in =
            let more : filter p (y ∷ xs) ≡ y ∷ filter p xs = rw is refl in
            elim (contains_split x y (filter p xs) (subst (λ l. Contains l x) more c)) [
              | inl same ↦ subst (Contains (y ∷ xs)) same (here y xs)
              | inr rest ↦ later y x xs (rest_in rest)
            ]
        at false is rest_in =
            let same : filter p (y ∷ xs) ≡ filter p xs = rw is refl in
            later y x xs (rest_in (subst (λ l. Contains l x) same c))

    pub into_filtered : (xs : List X) (x : X) → Contains xs x → p x ≡ true → Contains (filter p xs) x
    into_filtered [] x c passes = c
    into_filtered (y ∷ xs) x c passes = at (p y) refl (contains_split x y xs c) (λ rest. into_filtered xs x rest passes)
      where
        at : (b : Bool) → p y ≡ b → (y ≡ x) ⊎ Contains xs x → (Contains xs x → Contains (filter p xs) x) → Contains (filter p (y ∷ xs)) x
        at true is (inl same) rest_in =
            let more : filter p (y ∷ xs) ≡ y ∷ filter p xs = rw is refl in
            subst (λ l. Contains l x) (sym more) (subst (Contains (y ∷ filter p xs)) same (here y (filter p xs)))
        at true is (inr rest) rest_in =
            let more : filter p (y ∷ xs) ≡ y ∷ filter p xs = rw is refl in
            subst (λ l. Contains l x) (sym more) (later y x (filter p xs) (rest_in rest))
        at false is (inl same) rest_in = let wrong : true ≡ false = sym passes ∙ ap p (sym same) ∙ is in absurd (cc)
        at false is (inr rest) rest_in =
            let same : filter p (y ∷ xs) ≡ filter p xs = rw is refl in
            subst (λ l. Contains l x) (sym same) (rest_in rest)

    pub passes_filtered : (xs : List X) (x : X) → Contains (filter p xs) x → p x ≡ true
    passes_filtered xs x c = subst (λ y. p y ≡ true) c.2 (filter_passes p xs c.0 x c.1)

  module _ (place : X → List ℕ) (x : X) where
    abbrev is_before : X → Bool
    is_before y = earlier (place y) (place x)

    abbrev is_not_before : X → Bool
    is_not_before y = not (is_before y)

    pub from_put : (xs : List X) (y : X) → Contains (list_with place x xs) y → (x ≡ y) ⊎ Contains xs y
    from_put xs y c =
        elim (Contains-append_cases (filter is_before xs) (x ∷ filter is_not_before xs) y c) [
          | inl front ↦ inr (from_filtered is_before xs y front)
          | inr back ↦ elim (contains_split y x (filter is_not_before xs) back) [
            | inl same ↦ inl same
            | inr rest ↦ inr (from_filtered is_not_before xs y rest)
          ]
        ]

    pub put_itself : (xs : List X) → Contains (list_with place x xs) x
    put_itself xs =
        Contains-append_right (filter is_before xs) (x ∷ filter is_not_before xs) x
        (here x (filter is_not_before xs))

    pub into_put : (xs : List X) (y : X) → Contains xs y → Contains (list_with place x xs) y
    into_put xs y c = at (is_before y) refl
      where
        at : (b : Bool) → is_before y ≡ b → Contains (list_with place x xs) y
        at true is =
            Contains-append_left (filter is_before xs) (x ∷ filter is_not_before xs) y
            (into_filtered is_before xs y c is)
        at false is =
            Contains-append_right (filter is_before xs) (x ∷ filter is_not_before xs) y
            (later x y (filter is_not_before xs) (into_filtered is_not_before xs y c (ap not is)))

-- ---- the first of least value

module _ {X : Type 0} (value tick : X → ℕ) where
  abbrev First : List X → X → Type 0
  First xs x = IsFirstLeast value tick xs x

  abbrev pub place_of : X → List ℕ
  place_of x = value x ∷ tick x ∷ []

  abbrev pub Before : X → X → Type 0
  Before x y = slice_cmp nat_cmp (place_of x) (place_of y) ≡ Less

  -- one at the front
  after : (y x : X) (xs : List X) → First xs x → (tick y ≡ tick x → value x < value y) → First (y ∷ xs) x
  after y x xs h below = record {
    place = suc h.place;
    there = h.there;
    first = λ i a lt got same. at i a lt got same;
    least = λ a c same. elim (contains_split a y xs c) [
      | inl is ↦ let low = below (ap tick is ∙ same) in let eq : value y ≡ value a = ap value is in omega (arith, low, eq)
      | inr rest ↦ h.least a rest same
    ];
  }
    where
      at : (i : ℕ) (a : X) → i < suc h.place → slice_get (y ∷ xs) i ≡ Some a → tick a ≡ tick x → value x < value a
      at zero a lt got same =
          let is : y ≡ a = cc in
          let low = below (ap tick is ∙ same) in let eq : value y ≡ value a = ap value is in omega (arith, low, eq)
      at (suc i) a lt got same = h.first i a (omega (arith, lt)) got same

  first_here : (x : X) (xs : List X) → ((a : X) → Contains xs a → tick a ≡ tick x → value x ≤ value a) → First (x ∷ xs) x
  first_here x xs low = record {
    place = zero;
    there = refl;
    first = λ i a lt got same. absurd (omega (arith, lt));
    least = λ a c same. elim (contains_split a x xs c) [
      | inl is ↦ let eq : value x ≡ value a = ap value is in omega (arith, eq)
      | inr rest ↦ low a rest same
    ];
  }

  -- a tick has a first of least value, or nothing stands there
  abbrev HasFirst : List X → ℕ → Type 0
  HasFirst xs t = ((x : X) × First xs x × (tick x ≡ t)) ⊎ ((a : X) → Contains xs a → tick a ≡ t → ⊥)

  has_first : (xs : List X) (t : ℕ) → HasFirst xs t
  has_first [] t = inr (λ a c same. none_contained a c)
  has_first (y ∷ xs) t = at (cases_eq (tick y) t) (has_first xs t)
    where
      at : (tick y ≡ t) ⊎ (tick y ≡ t → ⊥) → HasFirst xs t → HasFirst (y ∷ xs) t
      at (inl is) (inr none) = inl (y, first_here y xs (λ a c same. absurd (none a c (same ∙ is))), is)
      at (inr not_is) (inr none) = inr (λ a c same. elim (contains_split a y xs c) [ inl eq ↦ not_is (ap tick eq ∙ same) | inr rest ↦ none a rest same ])
      at (inr not_is) (inl k) = inl (k.0, after y k.0 xs k.1 (λ same. absurd (not_is (same ∙ k.2))), k.2)
      at (inl is) (inl k) = elim (cases_lt (value k.0) (value y)) [
        | inl low ↦ inl (k.0, after y k.0 xs k.1 (λ same. low), k.2)
        | inr high ↦ inl (
          y,
          first_here y xs (λ a c same. let le = k.1.least a c (same ∙ is ∙ sym k.2) in omega (arith, le, high)),
          is,
        )
      ]

  -- ---- one more at the end

  module _ (xs : List X) (x : X) where
    abbrev longer : List X
    longer = xs ++ (x ∷ [])

    -- the last of them, or one of the others
    last_or_other : (y : X) → Contains longer y → (x ≡ y) ⊎ Contains xs y
    last_or_other y c = elim (Contains-append_cases xs (x ∷ []) y c) [
      | inl front ↦ inr front
      | inr back ↦ elim (contains_split y x [] back) [ inl same ↦ inl same | inr rest ↦ absurd (none_contained y rest) ]
    ]

    still_first : (y : X) → First xs y → (tick x ≡ tick y → value y ≤ value x) → First longer y
    still_first y h low =
        let within = got_within xs h.place y h.there in
        record {
          place = h.place;
          there = got_left xs (x ∷ []) h.place within ∙ h.there;
          first = λ i a lt got same. h.first i a lt (sym (got_left xs (x ∷ []) i (omega (arith, lt, within))) ∙ got) same;
          least = λ a c same. elim (last_or_other a c) [
            | inl is ↦ let le = low (ap tick is ∙ same) in let eq : value x ≡ value a = ap value is in omega (arith, le, eq)
            | inr rest ↦ h.least a rest same
          ];
        }

    was_first : (y : X) → (h : First longer y) → h.place < length xs → First xs y
    was_first y h within = record {
      place = h.place;
      there = sym (got_left xs (x ∷ []) h.place within) ∙ h.there;
      first = λ i a lt got same. h.first i a lt (got_left xs (x ∷ []) i (omega (arith, lt, within)) ∙ got) same;
      least = λ a c same. h.least a (Contains-append_left xs (x ∷ []) a c) same;
    }

    is_last : (y : X) → (h : First longer y) → length xs ≤ h.place → x ≡ y
    is_last y h past =
        let within : h.place < length longer = got_within longer h.place y h.there in
        let long : length longer ≡ length xs + 1 = length_push xs x in
        let at : h.place ≡ length xs = omega (arith, within, past, long) in
        let got : slice_get longer (length xs) ≡ Some y = ap (slice_get longer) (sym at) ∙ h.there in
        let both : Some x ≡ Some y = sym (got_last xs x) ∙ got in
        cc

    module _ (kept : List X) (h : AreFirstLeast value tick xs kept) where
      -- what is kept is no dearer than what is there
      pub cover : (a : X) → Contains xs a → (k : X) × Contains kept k × (tick k ≡ tick a) × (value k ≤ value a)
      cover a c = elim (has_first xs (tick a)) [
        | inl k ↦ (k.0, (h.exactly k.0).1 k.1, k.2, k.1.least a c (sym k.2))
        | inr none ↦ absurd (none a c refl)
      ]

      -- one that is no dearer is kept already
      pub same_kept : (k : X) → Contains kept k → tick k ≡ tick x → value k ≤ value x → AreFirstLeast value tick longer kept
      same_kept k c same low = record {
        in_order = h.in_order;
        exactly = λ y. (
          λ there.
              let is : First xs y = (h.exactly y).0 there in
              let k_is : First xs k = (h.exactly k).0 c in
              still_first y is (λ at. let le = is.least k (got_contained xs k_is.place k k_is.there) (same ∙ at) in omega (arith, le, low)),
          λ is. (h.exactly y).1 (elim (cases_lt is.place (length xs)) [
            | inl within ↦ was_first y is within
            | inr past ↦
                let eq : x ≡ y = is_last y is past in
                let k_is : First xs k = (h.exactly k).0 c in
                let in_xs = got_within xs k_is.place k k_is.there in
                let lower = is.first k_is.place k (omega (arith, in_xs, past)) (got_left xs (x ∷ []) k_is.place in_xs ∙ k_is.there) (same ∙ ap tick eq) in
                let val : value x ≡ value y = ap value eq in
                absurd (omega (arith, lower, low, val))
          ]),
        );
      }

      abbrev elsewhere : X → Bool
      elsewhere y = not (nat_eq (tick y) (tick x))

      away : (y : X) → elsewhere y ≡ true → tick y ≡ tick x → ⊥
      away y passes same = let is : nat_eq (tick y) (tick x) ≡ true = eq-eqb (tick y) (tick x) same in let wrong : false ≡ true = sym (ap not is) ∙ passes in cc

      is_away : (y : X) → (tick y ≡ tick x → ⊥) → elsewhere y ≡ true
      is_away y differ = ap not (ne_eqb (tick y) (tick x) differ)

      -- else it takes the place of what is kept at its tick
      pub new_kept : ((k : X) → Contains kept k → tick k ≡ tick x → value k ≤ value x → ⊥)
          → AreFirstLeast value tick longer (list_with place_of x (filter elsewhere kept))
      new_kept none = record {
        in_order = put_in_order place_of x (filter elsewhere kept) (AllPairs-filter Before elsewhere kept h.in_order)
            (λ k d lt same. away (get_or (filter elsewhere kept) k d) (filter_passes elsewhere kept k d lt) (ticks_same (value (get_or (filter elsewhere kept) k d)) (value x) _ _ same));
        exactly = λ y. (
          λ there. elim (from_put place_of x (filter elsewhere kept) y there) [
            | inl eq ↦ subst (First longer) eq new_first
            | inr rest ↦
                still_first y ((h.exactly y).0 (from_filtered elsewhere kept y rest)) (λ at. absurd (away y (passes_filtered elsewhere kept y rest) (sym at)))
          ],
          λ is. elim (cases_lt is.place (length xs)) [
            | inl within ↦
                let c : Contains kept y = (h.exactly y).1 (was_first y is within) in
                into_put place_of x (filter elsewhere kept) y
                (into_filtered elsewhere kept y c (is_away y (λ same. none y c same (is.least x (Contains-append_right xs (x ∷ []) x (here x [])) (sym same)))))
            | inr past ↦ subst (Contains (list_with place_of x (filter elsewhere kept))) (is_last y is past) (put_itself place_of x (filter elsewhere kept))
          ],
        );
      }
        where
          ticks_same : (a b s t : ℕ) → ◌≡◌ {A = List ℕ} (a ∷ s ∷ []) (b ∷ t ∷ []) → s ≡ t
          ticks_same a b s t e = cc

          lower : (a : X) → Contains xs a → tick a ≡ tick x → value x < value a
          lower a c same =
              let k = cover a c in
              elim (cases_lt (value x) (value k.0)) [
                | inl low ↦ omega (arith, low, k.3)
                | inr high ↦ absurd (none k.0 k.1 (k.2 ∙ same) high)
              ]

          new_first : First longer x
          new_first = record {
            place = length xs;
            there = got_last xs x;
            first = λ i a lt got same. lower a (got_contained xs i a (sym (got_left xs (x ∷ []) i lt) ∙ got)) same;
            least = λ a c same. elim (last_or_other a c) [
              | inl is ↦ let eq : value x ≡ value a = ap value is in omega (arith, eq)
              | inr rest ↦ let low = lower a rest same in omega (arith, low)
            ];
          }
