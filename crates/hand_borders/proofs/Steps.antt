-- The nearest borders of least cost, and the lists of borders that they make.
use Rattle.std.proofs.Common.{◌≡◌, ℕ, ◌+◌, ◌-◌, ◌*◌, ◌<◌, ◌≤◌, List, [], ◌∷◌, refl, sym, ◌∙◌, subst, inl, inr, arith}
use Rattle.std.specs.Prelude.{◌≢◌, slice_index}
use Rattle.std.specs.Ordering.{nat_cmp}
use Rattle.std.specs.Cmp.Lexicographic.{slice_cmp}
use Rattle.std.specs.declared.cmp.Ordering.TheVariants.{Less}
use Rattle.std.proofs.lemmas.Bool.{cases_order}
use Rattle.std.proofs.lemmas.Bool.Decides.{nat_tests}
use Rattle.rhythm_base.specs.Lists.{Each, gap}
use Rattle.hand_borders.specs.Borders.{AreBorders, IsLeastBorders, cost_of}
use Rattle.hand_borders.specs.Ways.{AreNearest, IsLowest, IsNearest, IsNearestBelow, follow}

-- ---- the border that is nearest by cost

module _ (after : List ℕ) where
  abbrev f : ℕ → ℕ
  f j = slice_index after j

  pub below_first : IsNearestBelow after 0 (f 0) 0
  below_first = record {
    within = omega arith;
    value = omega arith;
    least = λ j le. (let z : 0 ≡ j = omega arith in subst (λ i. f 0 ≤ f i + 200 * (0 - i)) z (omega arith));
    first = λ j le e. omega arith;
  }

  pub below_own : (k v c : ℕ) → IsNearestBelow after k v c → f (k + 1) < v + 200 → IsNearestBelow after (k + 1) (f (k + 1)) (k + 1)
  below_own k v c h less = record {
    within = omega arith;
    value = omega arith;
    least = λ j le. (elim (cases_order j (k + 1)) [
      | inl e ↦ subst (λ i. f (k + 1) ≤ f i + 200 * ((k + 1) - i)) (sym e) (omega arith)
      | inr other ↦ elim other [
        | inl lt ↦ (let l = h.least j (omega arith) in omega (arith, l, less, lt))
        | inr gt ↦ absurd (omega arith)
      ]
    ]);
    first = λ j le e. (elim (cases_order j (k + 1)) [
      | inl e ↦ omega (arith, e)
      | inr other ↦ elim other [
        | inl lt ↦ (let l = h.least j (omega arith) in absurd (omega (arith, l, less, lt, e)))
        | inr gt ↦ absurd (omega arith)
      ]
    ]);
  }

  pub below_lower : (k v c : ℕ) → IsNearestBelow after k v c → v + 200 ≤ f (k + 1) → IsNearestBelow after (k + 1) (v + 200) c
  below_lower k v c h low = record {
    within = omega (arith, h.within);
    value = omega (arith, h.value, h.within);
    least = λ j le. (elim (cases_order j (k + 1)) [
      | inl e ↦ subst (λ i. v + 200 ≤ f i + 200 * ((k + 1) - i)) (sym e) (omega (arith, low))
      | inr other ↦ elim other [
        | inl lt ↦ (let l = h.least j (omega arith) in omega (arith, l, lt))
        | inr gt ↦ absurd (omega arith)
      ]
    ]);
    first = λ j le e. (elim (cases_order j (k + 1)) [
      | inl same ↦ omega (arith, h.within, same)
      | inr other ↦ elim other [
        | inl lt ↦ h.first j (omega arith) (omega (arith, e, lt))
        | inr gt ↦ absurd (omega arith)
      ]
    ]);
  }

  pub nearest_top : (v c : ℕ) → IsNearestBelow after 128 v c → IsNearest after 128 v c
  nearest_top v c h = record {
    within = omega (arith, h.within);
    value = omega (arith, h.value, h.within);
    least = λ j lt. (let l = h.least j (omega arith) in omega (arith, l, lt));
    first = λ j lt e. h.first j (omega arith) (omega (arith, e, lt));
  }

  pub nearest_above : (k v c w e : ℕ) → IsNearestBelow after k v c → IsNearest after (k + 1) w e → w + 200 < v
      → IsNearest after k (w + 200) e
  nearest_above k v c w e h n less = record {
    within = n.within;
    value = (elim (cases_order e k) [
      | inl same ↦ (let l = h.least e (omega arith) in absurd (omega (arith, l, less, n.value, same)))
      | inr other ↦ elim other [
        | inl lt ↦ (let l = h.least e (omega arith) in absurd (omega (arith, l, less, n.value, lt)))
        | inr gt ↦ omega (arith, n.value, gt)
      ]
    ]);
    least = λ j lt. (elim (cases_order j k) [
      | inl same ↦ (let l = h.least j (omega arith) in omega (arith, l, less, same))
      | inr other ↦ elim other [
        | inl low ↦ (let l = h.least j (omega arith) in omega (arith, l, less, low))
        | inr high ↦ (let l = n.least j lt in omega (arith, l, high))
      ]
    ]);
    first = λ j lt eq. (elim (cases_order j k) [
      | inl same ↦ (let l = h.least j (omega arith) in absurd (omega (arith, l, less, same, eq)))
      | inr other ↦ elim other [
        | inl low ↦ (let l = h.least j (omega arith) in absurd (omega (arith, l, less, low, eq)))
        | inr high ↦ n.first j lt (omega (arith, eq, high))
      ]
    ]);
  }

  pub nearest_own : (k v c w e : ℕ) → k < 129 → IsNearestBelow after k v c → IsNearest after (k + 1) w e → v ≤ w + 200
      → IsNearest after k v c
  nearest_own k v c w e low h n more = record {
    within = omega (arith, h.within, low);
    value = omega (arith, h.value, h.within);
    least = λ j lt. (elim (cases_order j k) [
      | inl same ↦ (let l = h.least j (omega arith) in omega (arith, l, same))
      | inr other ↦ elim other [
        | inl below ↦ (let l = h.least j (omega arith) in omega (arith, l, below))
        | inr above ↦ (let l = n.least j lt in omega (arith, l, more, above))
      ]
    ]);
    first = λ j lt eq. (elim (cases_order j k) [
      | inl same ↦ h.first j (omega arith) (omega (arith, eq, same))
      | inr other ↦ elim other [
        | inl below ↦ h.first j (omega arith) (omega (arith, eq, below))
        | inr above ↦ omega (arith, h.within, above)
      ]
    ]);
  }

  -- it costs no more than to stay
  pub nearest_low : (k v c : ℕ) → k < 129 → IsNearest after k v c → v ≤ f k
  nearest_low k v c lt n = let l = n.least k lt in omega (arith, l)

  pub below_low : (k v c : ℕ) → IsNearestBelow after k v c → v ≤ f k
  below_low k v c n = let l = n.least k (omega arith) in omega (arith, l)

-- ---- lists of borders from one on

-- of all lists that begin with a border the one of least cost, and of equals the first
pub record IsBestFrom (groups : List (List ℕ)) (b v : ℕ) (rest : List ℕ) : Type 0 where
  pub are : AreBorders groups (b ∷ rest)
  pub value : cost_of groups (b ∷ rest) ≡ v
  pub least : (others : List ℕ) → AreBorders groups (b ∷ others) → v ≤ cost_of groups (b ∷ others)
  pub first : (others : List ℕ) → AreBorders groups (b ∷ others) → cost_of groups (b ∷ others) ≡ v → slice_cmp nat_cmp others rest ≢ Less

abbrev pub AreBest : List (List ℕ) → List ℕ → List (List ℕ) → Type 0
AreBest groups after rows = (b : ℕ) → b < 129 → IsBestFrom groups b (slice_index after b) (follow rows b)

pub best_last : (group : List ℕ) → AreBest (group ∷ []) group []
best_last group b lt = record {
  are = (lt, refl);
  value = omega arith;
  least = λ others are. only others are.1;
  first = λ others are e. alone others are.1;
}
  where
    only : (others : List ℕ) → Each (λ (g : List ℕ) c. c < 129) [] others → slice_index group b ≤ cost_of (group ∷ []) (b ∷ others)
    only [] e = omega arith
    only (o ∷ others) e = absurd (cc)

    alone : (others : List ℕ) → Each (λ (g : List ℕ) c. c < 129) [] others → slice_cmp nat_cmp others [] ≢ Less
    alone [] e less = cc
    alone (o ∷ others) e less = cc

later_words : (c j : ℕ) (rest others : List ℕ) → c ≤ j → (j ≡ c → slice_cmp nat_cmp others rest ≢ Less)
    → slice_cmp nat_cmp (j ∷ others) (c ∷ rest) ≢ Less
later_words c j rest others le same less = elim (cases_order c j) [
  | inl e ↦ same (sym e) (grind (arith, nat_tests))
  | inr other ↦ elim other [
    | inl lt ↦ absurd (grind (arith, nat_tests))
    | inr gt ↦ absurd (omega arith)
  ]
]

module _ (group next : List ℕ) (groups : List (List ℕ)) (after : List ℕ) (rows : List (List ℕ)) (cost choice sums : List ℕ) where
  pub best_more : AreBest (next ∷ groups) after rows → AreNearest after cost choice
      → ((k : ℕ) → k < 129 → slice_index sums k ≡ slice_index group k + slice_index cost k)
      → AreBest (group ∷ next ∷ groups) sums (choice ∷ rows)
  best_more best near sum b lt =
      let n = near b lt in
      let s = sum b lt in
      let from = best (slice_index choice b) n.within in
      record {
        are = (lt, from.are);
        value = omega (arith, n.value, from.value, s);
        least = λ others are. (let l = at_least n others are.1 in omega (arith, l, s));
        first = λ others are e. none_before n from others are.1 (e ∙ s);
      }
    where
      at_least : IsNearest after b (slice_index cost b) (slice_index choice b) → (others : List ℕ) → AreBorders (next ∷ groups) others
          → slice_index group b + slice_index cost b ≤ cost_of (group ∷ next ∷ groups) (b ∷ others)
      at_least n [] are = absurd are
      at_least n (j ∷ others) are = let l = n.least j are.0 in let m = (best j are.0).least others are in omega (arith, l, m)

      none_before : IsNearest after b (slice_index cost b) (slice_index choice b)
          → IsBestFrom (next ∷ groups) (slice_index choice b) (slice_index after (slice_index choice b))
          (follow rows (slice_index choice b))
          → (others : List ℕ) → AreBorders (next ∷ groups) others
          → cost_of (group ∷ next ∷ groups) (b ∷ others) ≡ slice_index group b + slice_index cost b
          → slice_cmp nat_cmp others (slice_index choice b ∷ follow rows (slice_index choice b)) ≢ Less
      none_before n from [] are e = absurd are
      none_before n from (j ∷ others) are e =
          let l = n.least j are.0 in
          let m = (best j are.0).least others are in
          let cheap : slice_index after j + 200 * gap b j ≡ slice_index cost b = omega (arith, l, m, e) in
          let equal : cost_of (next ∷ groups) (j ∷ others) ≡ slice_index after j = omega (arith, l, m, e) in
          later_words (slice_index choice b) j (follow rows (slice_index choice b)) others (n.first j are.0 cheap)
          (λ same. from.first others (subst (λ i. AreBorders (next ∷ groups) (i ∷ others)) same are)
          (subst (λ i. cost_of (next ∷ groups) (i ∷ others) ≡ slice_index after i) same equal))

pub best_of_all : (group : List ℕ) (groups : List (List ℕ)) (after : List ℕ) (rows : List (List ℕ)) (b : ℕ)
    → AreBest (group ∷ groups) after rows → IsLowest after b → IsLeastBorders (group ∷ groups) (b ∷ follow rows b)
best_of_all group groups after rows b best lowest = record {
  are = (best b lowest.within).are;
  least = λ others are. at_least others are;
  first = λ others are e. none_before others are e;
}
  where
    at_least : (others : List ℕ) → AreBorders (group ∷ groups) others
        → cost_of (group ∷ groups) (b ∷ follow rows b) ≤ cost_of (group ∷ groups) others
    at_least [] are = absurd are
    at_least (j ∷ others) are = let v = (best b lowest.within).value in let l = lowest.least j are.0 in
        let m = (best j are.0).least others are in omega (arith, v, l, m)

    none_before : (others : List ℕ) → AreBorders (group ∷ groups) others
        → cost_of (group ∷ groups) others ≡ cost_of (group ∷ groups) (b ∷ follow rows b)
        → slice_cmp nat_cmp others (b ∷ follow rows b) ≢ Less
    none_before [] are e = absurd are
    none_before (j ∷ others) are e =
        let v = (best b lowest.within).value in
        let l = lowest.least j are.0 in
        let m = (best j are.0).least others are in
        let cheap : slice_index after j ≡ slice_index after b = omega (arith, v, l, m, e) in
        let equal : cost_of (group ∷ groups) (j ∷ others) ≡ slice_index after j = omega (arith, v, l, m, e) in
        later_words b j (follow rows b) others (lowest.first j are.0 cheap)
        (λ same. (best b lowest.within).first others (subst (λ i. AreBorders (group ∷ groups) (i ∷ others)) same are)
        (subst (λ i. cost_of (group ∷ groups) (i ∷ others) ≡ slice_index after i) same equal))
