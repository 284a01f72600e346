-- The first few of what is kept, with one more: those past them play no part.
use Rattle.std.proofs.Common.{◌≡◌, ℕ, zero, suc, ◌≤◌, ◌⊎◌, inl, inr, Bool, true, false, not, nat_eq, List, [], ◌∷◌, ◌++◌, take, refl, ap, sym, ◌∙◌, subst, arith}
use Rattle.std.specs.Prelude.{AllPairs, Contains, filter, if◌then◌else◌}
use Rattle.std.specs.Cmp.Lexicographic.{nat_list_cmp_total}
use Rattle.std.specs.Ordering.{is_lt}
use Rattle.std.proofs.lemmas.Bool.{eqb-false, eqb-true, false≢true, true≢false}
use Rattle.std.proofs.lemmas.List.{take-take}
use Rattle.rhythm_base.specs.Lists.{earlier, list_with}
use Rattle.rhythm_base.proofs.FirstLists.{contains_split}
use Rattle.rhythm_base.proofs.TotalOrders.{before_above, itself}
use Rattle.rhythm_base.proofs.OrderedLists.{goes_through, other_way, pairs_head, pairs_tail}
use Rattle.barline_follow.specs.Least.{AreFirstLeast}
use Rattle.barline_follow.proofs.ApartTicks.{AreApart, apart_take, kept_apart, keeps_itself, pairs_take}
use Rattle.barline_follow.proofs.CostLemmas.{less_cost, not_less_cost}
use Rattle.barline_follow.proofs.FirstLeast.{Before, from_filtered, here, later, new_kept, none_contained, place_of, same_kept}
use Rattle.barline_follow.proofs.Gathering.{taken}
use Rattle.barline_follow.proofs.OneAnswers.{one_first_least}

module _ {X : Type 0} (value tick : X → ℕ) (x : X) where
  abbrev pub place : X → List ℕ
  place y = place_of value tick y

  abbrev pub is_elsewhere : X → Bool
  is_elsewhere y = not (nat_eq (tick y) (tick x))

  -- ---- what is kept with x, one after another: x goes before the first that it stands before, unless one up to there has its tick

  abbrev pub with_one : List X → List X
  with_one [] = x ∷ []
  with_one (k ∷ ks) =
      if earlier (place x) (place k) then x ∷ filter is_elsewhere (k ∷ ks) else (if nat_eq (tick k) (tick x) then k ∷ ks else k ∷ with_one ks)

  pub all_elsewhere : (ks : List X) → ((y : X) → Contains ks y → tick y ≡ tick x → ⊥) → filter is_elsewhere ks ≡ ks
  all_elsewhere [] away = refl
  all_elsewhere (k ∷ ks) away = by (nat_eq (tick k) (tick x)) refl (all_elsewhere ks (λ y c. away y (later k y ks c)))
    where
      by : (b : Bool) → nat_eq (tick k) (tick x) ≡ b → filter is_elsewhere ks ≡ ks → (if not b then k ∷ filter is_elsewhere ks else filter is_elsewhere ks) ≡ k ∷ ks
      by true is rest = absurd (away k (here k ks) (eqb-true (tick k) (tick x) is))
      by false is rest = ap (λ l. k ∷ l) rest

  -- at most one is not elsewhere
  few_elsewhere : (m : ℕ) (ks : List X) → AreApart tick ks → take m (filter is_elsewhere (take (suc m) ks)) ≡ take m (filter is_elsewhere ks)
  few_elsewhere zero ks apart = refl
  few_elsewhere (suc m) [] apart = refl
  few_elsewhere (suc m) (k ∷ ks) apart = by (nat_eq (tick k) (tick x)) refl (few_elsewhere m ks apart.1)
    where
      by : (b : Bool) → nat_eq (tick k) (tick x) ≡ b → take m (filter is_elsewhere (take (suc m) ks)) ≡ take m (filter is_elsewhere ks)
          → take (suc m) (if not b then k ∷ filter is_elsewhere (take (suc m) ks) else filter is_elsewhere (take (suc m) ks))
          ≡ take (suc m) (if not b then k ∷ filter is_elsewhere ks else filter is_elsewhere ks)
      by false is rest = ap (λ l. k ∷ l) rest
      by true is rest =
          let same : tick k ≡ tick x = eqb-true (tick k) (tick x) is in
          let away : (y : X) → Contains ks y → tick y ≡ tick x → ⊥ = λ y c at. apart.0 y c (same ∙ sym at) in
          ap (take (suc m)) (all_elsewhere (take (suc m) ks) (λ y c. away y (taken (suc m) ks y c)))
          ∙ take-take (suc m) (suc m) ks (omega arith) ∙ ap (take (suc m)) (sym (all_elsewhere ks away))

  few_with_one : (m : ℕ) (ks : List X) → AreApart tick ks → take m (with_one (take m ks)) ≡ take m (with_one ks)
  few_with_one zero ks apart = refl
  few_with_one (suc m) [] apart = refl
  few_with_one (suc m) (k ∷ ks) apart = by (earlier (place x) (place k)) (nat_eq (tick k) (tick x)) (few_with_one m ks apart.1)
    where
      by : (b c : Bool) → take m (with_one (take m ks)) ≡ take m (with_one ks)
          → take (suc m) (if b then x ∷ filter is_elsewhere (k ∷ take m ks) else (if c then k ∷ take m ks else k ∷ with_one (take m ks)))
          ≡ take (suc m) (if b then x ∷ filter is_elsewhere (k ∷ ks) else (if c then k ∷ ks else k ∷ with_one ks))
      by true c rest = ap (λ l. x ∷ l) (few_elsewhere m (k ∷ ks) apart)
      by false true rest = ap (λ l. k ∷ l) (take-take m m ks (omega arith))
      by false false rest = ap (λ l. k ∷ l) rest

  -- ---- it is what is kept

  abbrev stands_before : X → Bool
  stands_before y = earlier (place y) (place x)

  abbrev stands_after : X → Bool
  stands_after y = not (stands_before y)

  none_before : (ks : List X) → ((y : X) → Contains ks y → stands_before y ≡ false) → filter stands_before ks ≡ []
  none_before [] after = refl
  none_before (k ∷ ks) after = by (stands_before k) (after k (here k ks)) (none_before ks (λ y c. after y (later k y ks c)))
    where
      by : (b : Bool) → b ≡ false → filter stands_before ks ≡ [] → (if b then k ∷ filter stands_before ks else filter stands_before ks) ≡ []
      by true is rest = absurd (true≢false is)
      by false is rest = rest

  all_after : (ks : List X) → ((y : X) → Contains ks y → stands_before y ≡ false) → filter stands_after ks ≡ ks
  all_after [] after = refl
  all_after (k ∷ ks) after = by (stands_before k) (after k (here k ks)) (all_after ks (λ y c. after y (later k y ks c)))
    where
      by : (b : Bool) → b ≡ false → filter stands_after ks ≡ ks → (if not b then k ∷ filter stands_after ks else filter stands_after ks) ≡ k ∷ ks
      by true is rest = absurd (true≢false is)
      by false is rest = ap (λ l. k ∷ l) rest

  -- where all stand after x, x goes first
  goes_first : (ks : List X) → ((y : X) → Contains ks y → stands_before y ≡ false) → list_with place x ks ≡ x ∷ ks
  goes_first ks after = λ i. none_before ks after i ++ (x ∷ all_after ks after i)

  -- where the first stands before x, x goes among the others
  goes_later : (k : X) (ks : List X) → stands_before k ≡ true → k ∷ list_with place x ks ≡ list_with place x (k ∷ ks)
  goes_later k ks is = by (stands_before k) is
    where
      by : (b : Bool) → b ≡ true → k ∷ list_with place x ks
          ≡ (if b then k ∷ filter stands_before ks else filter stands_before ks) ++ (x ∷ (if not b then k ∷ filter stands_after ks else filter stands_after ks))
      by true is = refl
      by false is = absurd (false≢true is)

  -- one at its tick has at most its value, and nothing changes; or none has, and x takes their place
  abbrev HasAsLow : List X → Type 0
  HasAsLow ks = (k : X) × Contains ks k × (tick k ≡ tick x) × (value k ≤ value x)

  abbrev Comes : List X → List X → Type 0
  Comes ks next =
      (HasAsLow ks × (next ≡ ks))
      ⊎ (((k : X) → Contains ks k → tick k ≡ tick x → value k ≤ value x → ⊥) × (next ≡ list_with place x (filter is_elsewhere ks)))

  comes : (ks : List X) → AllPairs (Before value tick) ks → Comes ks (with_one ks)
  comes [] up = inr ((λ k c same low. none_contained k c), refl)
  comes (k ∷ ks) up = by (earlier (place x) (place k)) refl (nat_eq (tick k) (tick x)) refl (comes ks (pairs_tail (Before value tick) k ks up))
    where
      further : earlier (place x) (place k) ≡ true → (y : X) → Contains (k ∷ ks) y → earlier (place x) (place y) ≡ true
      further is y c = elim (contains_split y k ks c) [
        | inl same ↦ subst (λ z. earlier (place x) (place z) ≡ true) same is
        | inr rest ↦
            let next : earlier (place k) (place y) ≡ true = ap is_lt (subst (Before value tick k) rest.2 (pairs_head (Before value tick) k ks up rest.0 y rest.1)) in
            goes_through (place x) (place k) (place y) is next
      ]

      dearer : (y : X) → earlier (place x) (place y) ≡ true → tick y ≡ tick x → value y ≤ value x → ⊥
      dearer y is same low =
          let le = less_cost (value x) (value y) _ is in
          let values : value x ≡ value y = omega (arith, le, low) in
          let places : place x ≡ place y = λ i. values i ∷ sym same i ∷ [] in
          false≢true (sym (itself nat_list_cmp_total (place y)) ∙ ap (λ l. earlier l (place y)) (sym places) ∙ is)

      by : (b : Bool) → earlier (place x) (place k) ≡ b → (c : Bool) → nat_eq (tick k) (tick x) ≡ c → Comes ks (with_one ks)
          → Comes (k ∷ ks) (if b then x ∷ filter is_elsewhere (k ∷ ks) else (if c then k ∷ ks else k ∷ with_one ks))
      by true is c same rest = inr (
        (λ y c at low. dearer y (further is y c) at low),
        sym (goes_first (filter is_elsewhere (k ∷ ks))
            (λ y c. before_above nat_list_cmp_total (place x) (place y) (further is y (from_filtered is_elsewhere (k ∷ ks) y c)))),
      )
      by false is true same rest = inl ((k, here k ks, eqb-true (tick k) (tick x) same, not_less_cost (value x) (value k) _ is), refl)
      by false is false same rest =
          let differ : tick k ≡ tick x → ⊥ = eqb-false (tick k) (tick x) same in
          let before : earlier (place k) (place x) ≡ true = other_way (place x) (place k) is (λ e. differ (ticks_same (value x) (value k) (tick x) (tick k) e)) in
          elim rest [
            | inl h ↦ inl ((h.0.0, later k h.0.0 ks h.0.1, h.0.2, h.0.3), ap (λ l. k ∷ l) h.1)
            | inr h ↦ inr (
              (λ y c at low. elim (contains_split y k ks c) [ inl first ↦ differ (ap tick first ∙ at) | inr others ↦ h.0 y others at low ]),
              ap (λ l. k ∷ l) h.1 ∙ goes_later k (filter is_elsewhere ks) before ∙ ap (list_with place x) (still same),
            )
          ]
        where
          still : nat_eq (tick k) (tick x) ≡ false → k ∷ filter is_elsewhere ks ≡ filter is_elsewhere (k ∷ ks)
          still same = at (nat_eq (tick k) (tick x)) same
            where
              at : (b : Bool) → b ≡ false → k ∷ filter is_elsewhere ks ≡ (if not b then k ∷ filter is_elsewhere ks else filter is_elsewhere ks)
              at true is = absurd (true≢false is)
              at false is = refl

          ticks_same : (a b s t : ℕ) → ◌≡◌ {A = List ℕ} (a ∷ s ∷ []) (b ∷ t ∷ []) → t ≡ s
          ticks_same a b s t e = cc

  pub kept_with_one : (xs ks : List X) → AreFirstLeast value tick xs ks → AreFirstLeast value tick (xs ++ (x ∷ [])) (with_one ks)
  kept_with_one xs ks h = elim (comes ks h.in_order) [
    | inl same ↦ subst (AreFirstLeast value tick (xs ++ (x ∷ []))) (sym same.1) (same_kept value tick xs x ks h same.0.0 same.0.1 same.0.2 same.0.3)
    | inr new ↦ subst (AreFirstLeast value tick (xs ++ (x ∷ []))) (sym new.1) (new_kept value tick xs x ks h new.0)
  ]

-- ---- the first few

module _ {X : Type 0} (value tick : X → ℕ) where
  pub few_themselves : (m : ℕ) (xs kept : List X) → AreFirstLeast value tick xs kept → AreFirstLeast value tick (take m kept) (take m kept)
  few_themselves m xs kept h =
      keeps_itself value tick (take m kept) (pairs_take value tick m kept h.in_order) (apart_take tick m kept (kept_apart value tick xs kept h))

  -- the first few of what is kept of the first few and one more are the first few of what is kept of all and that one
  pub few_more : (m : ℕ) (xs kept next : List X) (x : X) → AreFirstLeast value tick xs kept → AreFirstLeast value tick (take m kept ++ (x ∷ [])) next
      → (all : List X) × AreFirstLeast value tick (xs ++ (x ∷ [])) all × (take m next ≡ take m all)
  few_more m xs kept next x h k =
      let itself_kept = few_themselves m xs kept h in
      let is : next ≡ with_one value tick x (take m kept) =
      one_first_least value tick (take m kept ++ (x ∷ [])) next (with_one value tick x (take m kept)) k (kept_with_one value tick x (take m kept) (take m kept) itself_kept) in (
        with_one value tick x kept,
        kept_with_one value tick x xs kept h,
        ap (take m) is ∙ few_with_one value tick x m kept (kept_apart value tick xs kept h),
      )
