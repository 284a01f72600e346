-- One border more of a pass over all of them.
use Rattle.std.proofs.Common.{◌≡◌, ℕ, ◌+◌, ◌-◌, ◌<◌, ◌≤◌, ◌^◌, ◌≢◌, ◌⊎◌, List, length, set, refl, sym, ap, ◌∙◌, subst, inl, inr, arith}
use Rattle.std.specs.Prelude.{All, slice_index}
use Rattle.std.proofs.lemmas.Bool.{cases_order}
use Rattle.std.proofs.lemmas.List.{get_or-set_other, get_or-set_same, length-set, set-get_or}
use Rattle.hand_borders.specs.Ways.{AreNearestBelow, IsLowest, IsNearest, IsNearestBelow}
use Rattle.hand_borders.proofs.Steps.{below_first, below_lower, below_low, below_own, nearest_above, nearest_low, nearest_own, nearest_top}

-- ---- an entry that is set

module _ (P : ℕ → ℕ → ℕ → Type 0) (costs borders : List ℕ) (n v c : ℕ) (long : length costs ≡ 129)
    (wide : length borders ≡ 129) (within : n < 129) where
  set_here : P n v c → P n (slice_index (set costs n v) n) (slice_index (set borders n c) n)
  set_here h =
      let e : slice_index (set costs n v) n ≡ v = get_or-set_same costs n v 0 (omega (arith, long, within)) in
      let f : slice_index (set borders n c) n ≡ c = get_or-set_same borders n c 0 (omega (arith, wide, within)) in
      subst (λ x. P n x (slice_index (set borders n c) n)) (sym e) (subst (P n v) (sym f) h)

  set_there : (k : ℕ) → k ≢ n → P k (slice_index costs k) (slice_index borders k)
      → P k (slice_index (set costs n v) k) (slice_index (set borders n c) k)
  set_there k other h =
      let e : slice_index (set costs n v) k ≡ slice_index costs k = get_or-set_other costs n k v 0 other in
      let f : slice_index (set borders n c) k ≡ slice_index borders k = get_or-set_other borders n k c 0 other in
      subst (λ x. P k x (slice_index (set borders n c) k)) (sym e) (subst (P k (slice_index costs k)) (sym f) h)

-- ---- the first pass

pub record IsDown (after : List ℕ) (n : ℕ) (costs borders : List ℕ) : Type 0 where
  pub done : AreNearestBelow after n costs borders
  pub ahead : (k : ℕ) → n ≤ k → k < 129 → slice_index costs k ≡ slice_index after k
  pub long : length costs ≡ 129
  pub wide : length borders ≡ 129

pub down_first : (after borders : List ℕ) → length after ≡ 129 → length borders ≡ 129 → slice_index borders 0 ≡ 0
    → IsDown after 1 after borders
down_first after borders long wide e = record {
  done = λ k lt. (let z : 0 ≡ k = omega arith in
      subst (λ i. IsNearestBelow after i (slice_index after i) (slice_index borders i)) z
      (subst (IsNearestBelow after 0 (slice_index after 0)) (sym e) (below_first after)));
  ahead = λ k le lt. refl;
  long = long;
  wide = wide;
}

module _ (after costs borders : List ℕ) (n : ℕ) (some : 1 ≤ n) (within : n < 129) (h : IsDown after n costs borders) where
  down_set : (v c : ℕ) → IsNearestBelow after n v c → IsDown after (n + 1) (set costs n v) (set borders n c)
  down_set v c here = record {
    done = λ k lt. (elim (cases_order k n) [
      | inl e ↦ subst (λ i. IsNearestBelow after i (slice_index (set costs n v) i) (slice_index (set borders n c) i)) (sym e)
          (set_here (IsNearestBelow after) costs borders n v c h.long h.wide within here)
      | inr other ↦ elim other [
        | inl less ↦ set_there (IsNearestBelow after) costs borders n v c h.long h.wide within k (λ e. omega (arith, less, e))
            (h.done k less)
        | inr more ↦ absurd (omega arith)
      ]
    ]);
    ahead = λ k le lt. get_or-set_other costs n k v 0 (λ e. omega (arith, le, e)) ∙ h.ahead k (omega arith) lt;
    long = length-set costs n v ∙ h.long;
    wide = length-set borders n c ∙ h.wide;
  }

  before : IsNearestBelow after (n - 1) (slice_index costs (n - 1)) (slice_index borders (n - 1))
  before = h.done (n - 1) (omega (arith, some))

  next : n - 1 + 1 ≡ n
  next = omega (arith, some)

  pub down_lower : slice_index costs (n - 1) + 200 ≤ slice_index costs n
      → IsDown after (n + 1) (set costs n (slice_index costs (n - 1) + 200)) (set borders n (slice_index borders (n - 1)))
  down_lower low =
      let own : slice_index costs n ≡ slice_index after n = h.ahead n (omega arith) within in
      let at : slice_index after (n - 1 + 1) ≡ slice_index after n = ap (slice_index after) next in
      down_set (slice_index costs (n - 1) + 200) (slice_index borders (n - 1))
      (subst (λ i. IsNearestBelow after i (slice_index costs (n - 1) + 200) (slice_index borders (n - 1))) next
      (below_lower after (n - 1) (slice_index costs (n - 1)) (slice_index borders (n - 1)) before (omega (arith, low, own, at))))

  pub down_own : slice_index costs n < slice_index costs (n - 1) + 200 → IsDown after (n + 1) costs (set borders n n)
  down_own low =
      let own : slice_index costs n ≡ slice_index after n = h.ahead n (omega arith) within in
      let at : slice_index after (n - 1 + 1) ≡ slice_index after n = ap (slice_index after) next in
      let here : IsNearestBelow after (n - 1 + 1) (slice_index after (n - 1 + 1)) (n - 1 + 1) =
      below_own after (n - 1) (slice_index costs (n - 1)) (slice_index borders (n - 1)) before (omega (arith, low, own, at)) in
      let there : IsNearestBelow after n (slice_index after n) n = subst (λ i. IsNearestBelow after i (slice_index after i) i) next here in
      subst (λ cs. IsDown after (n + 1) cs (set borders n n)) (set-get_or costs n 0)
      (down_set (slice_index costs n) n (subst (λ v. IsNearestBelow after n v n) (sym own) there))

  -- no cost rises
  pub down_few : All (λ c. c ≤ 2 ^ 60) after → length after ≡ 129 → slice_index costs (n - 1) ≤ 2 ^ 60
  down_few few long =
      let l : slice_index costs (n - 1) ≤ slice_index after (n - 1) =
      below_low after (n - 1) (slice_index costs (n - 1)) (slice_index borders (n - 1)) before in
      let m : slice_index after (n - 1) ≤ 2 ^ 60 = few (n - 1) 0 (omega (arith, long, within)) in
      omega (arith, l, m)

-- ---- the second pass

pub record IsUp (after : List ℕ) (n : ℕ) (costs borders : List ℕ) : Type 0 where
  pub below : AreNearestBelow after n costs borders
  pub done : (k : ℕ) → n ≤ k → k < 129 → IsNearest after k (slice_index costs k) (slice_index borders k)
  pub long : length costs ≡ 129
  pub wide : length borders ≡ 129

pub up_first : (after costs borders : List ℕ) → length costs ≡ 129 → length borders ≡ 129 → AreNearestBelow after 129 costs borders
    → IsUp after 128 costs borders
up_first after costs borders long wide down = record {
  below = λ k lt. down k (omega arith);
  done = λ k le lt. (let e : 128 ≡ k = omega arith in
      subst (λ i. IsNearest after i (slice_index costs i) (slice_index borders i)) e
      (nearest_top after (slice_index costs 128) (slice_index borders 128) (down 128 (omega arith))));
  long = long;
  wide = wide;
}

module _ (after costs borders : List ℕ) (n : ℕ) (within : n < 128) (h : IsUp after (n + 1) costs borders) where
  above : IsNearest after (n + 1) (slice_index costs (n + 1)) (slice_index borders (n + 1))
  above = h.done (n + 1) (omega arith) (omega arith)

  up_set : (v c : ℕ) → IsNearest after n v c → IsUp after n (set costs n v) (set borders n c)
  up_set v c here = record {
    below = λ k lt. set_there (IsNearestBelow after) costs borders n v c h.long h.wide (omega arith) k (λ e. omega (arith, lt, e))
        (h.below k (omega arith));
    done = λ k le lt. (elim (cases_order k n) [
      | inl e ↦ subst (λ i. IsNearest after i (slice_index (set costs n v) i) (slice_index (set borders n c) i)) (sym e)
          (set_here (IsNearest after) costs borders n v c h.long h.wide (omega arith) here)
      | inr other ↦ elim other [
        | inl less ↦ absurd (omega arith)
        | inr more ↦ set_there (IsNearest after) costs borders n v c h.long h.wide (omega arith) k (λ e. omega (arith, more, e))
            (h.done k (omega arith) lt)
      ]
    ]);
    long = length-set costs n v ∙ h.long;
    wide = length-set borders n c ∙ h.wide;
  }

  pub up_above : slice_index costs (n + 1) + 200 < slice_index costs n
      → IsUp after n (set costs n (slice_index costs (n + 1) + 200)) (set borders n (slice_index borders (n + 1)))
  up_above less =
      up_set (slice_index costs (n + 1) + 200) (slice_index borders (n + 1))
      (nearest_above after n (slice_index costs n) (slice_index borders n) (slice_index costs (n + 1)) (slice_index borders (n + 1))
      (h.below n (omega arith)) above less)

  pub up_own : slice_index costs n ≤ slice_index costs (n + 1) + 200 → IsUp after n costs borders
  up_own more = record {
    below = λ k lt. h.below k (omega arith);
    done = λ k le lt. (elim (cases_order k n) [
      | inl e ↦ subst (λ i. IsNearest after i (slice_index costs i) (slice_index borders i)) (sym e)
          (nearest_own after n (slice_index costs n) (slice_index borders n) (slice_index costs (n + 1)) (slice_index borders (n + 1))
          (omega arith) (h.below n (omega arith)) above more)
      | inr other ↦ elim other [
        | inl less ↦ absurd (omega arith)
        | inr past ↦ h.done k (omega arith) lt
      ]
    ]);
    long = h.long;
    wide = h.wide;
  }

  pub up_few : All (λ c. c ≤ 2 ^ 60) after → length after ≡ 129 → slice_index costs (n + 1) ≤ 2 ^ 60
  up_few few long =
      let l : slice_index costs (n + 1) ≤ slice_index after (n + 1) =
      nearest_low after (n + 1) (slice_index costs (n + 1)) (slice_index borders (n + 1)) (omega arith) above in
      let m : slice_index after (n + 1) ≤ 2 ^ 60 = few (n + 1) 0 (omega (arith, long, within)) in
      omega (arith, l, m)

-- ---- a group's own costs

pub record IsSummed (group ways : List ℕ) (n : ℕ) (sums : List ℕ) : Type 0 where
  pub done : (k : ℕ) → k < n → slice_index sums k ≡ slice_index group k + slice_index ways k
  pub ahead : (k : ℕ) → n ≤ k → k < 129 → slice_index sums k ≡ slice_index ways k
  pub few : (k : ℕ) → k < 129 → slice_index sums k ≤ slice_index ways k + 4294967295
  pub long : length sums ≡ 129

pub summed_more : (group ways sums : List ℕ) (n v : ℕ) → n < 129 → slice_index group n ≤ 4294967295 → IsSummed group ways n sums
    → v ≡ slice_index sums n + slice_index group n → IsSummed group ways (n + 1) (set sums n v)
summed_more group ways sums n v within low h e = record {
  done = λ k lt. (elim (cases_order k n) [
    | inl same ↦ subst (λ i. slice_index (set sums n v) i ≡ slice_index group i + slice_index ways i) (sym same)
        (let s : slice_index (set sums n v) n ≡ v = get_or-set_same sums n v 0 (omega (arith, h.long, within)) in
        let w = h.ahead n (omega arith) within in omega (arith, s, w, e))
    | inr other ↦ elim other [
      | inl less ↦ get_or-set_other sums n k v 0 (λ z. omega (arith, z, less)) ∙ h.done k less
      | inr more ↦ absurd (omega arith)
    ]
  ]);
  ahead = λ k le lt. get_or-set_other sums n k v 0 (λ z. omega (arith, z, le)) ∙ h.ahead k (omega arith) lt;
  few = λ k lt. (elim (cases_order k n) [
    | inl same ↦ subst (λ i. slice_index (set sums n v) i ≤ slice_index ways i + 4294967295) (sym same)
        (let s : slice_index (set sums n v) n ≡ v = get_or-set_same sums n v 0 (omega (arith, h.long, within)) in
        let w = h.ahead n (omega arith) within in omega (arith, s, w, e, low))
    | inr other ↦ (let o = get_or-set_other sums n k v 0 (λ z. either k z other) in let f = h.few k lt in omega (arith, o, f))
  ]);
  long = length-set sums n v ∙ h.long;
}
  where
    either : (k : ℕ) → k ≡ n → (k < n) ⊎ (n < k) → ⊥
    either k z (inl l) = omega (arith, z, l)
    either k z (inr g) = omega (arith, z, g)

-- ---- the lowest

pub record IsLowestBelow (costs : List ℕ) (n border : ℕ) : Type 0 where
  pub within : border < n
  pub least : (other : ℕ) → other < n → slice_index costs border ≤ slice_index costs other
  pub first : (other : ℕ) → other < n → slice_index costs other ≡ slice_index costs border → border ≤ other

pub lowest_first : (costs : List ℕ) → IsLowestBelow costs 1 0
lowest_first costs = record {
  within = omega arith;
  least = λ k lt. (let z : 0 ≡ k = omega arith in subst (λ i. slice_index costs 0 ≤ slice_index costs i) z (omega arith));
  first = λ k lt e. omega arith;
}

pub lowest_new : (costs : List ℕ) (n border : ℕ) → IsLowestBelow costs n border → slice_index costs n < slice_index costs border
    → IsLowestBelow costs (n + 1) n
lowest_new costs n border h less = record {
  within = omega arith;
  least = λ k lt. (elim (cases_order k n) [
    | inl e ↦ subst (λ i. slice_index costs n ≤ slice_index costs i) (sym e) (omega arith)
    | inr other ↦ elim other [
      | inl low ↦ (let l = h.least k low in omega (arith, l, less))
      | inr more ↦ absurd (omega arith)
    ]
  ]);
  first = λ k lt s. (elim (cases_order k n) [
    | inl e ↦ omega (arith, e)
    | inr other ↦ elim other [
      | inl low ↦ (let l = h.least k low in absurd (omega (arith, l, less, s)))
      | inr more ↦ absurd (omega arith)
    ]
  ]);
}

pub lowest_old : (costs : List ℕ) (n border : ℕ) → IsLowestBelow costs n border → slice_index costs border ≤ slice_index costs n
    → IsLowestBelow costs (n + 1) border
lowest_old costs n border h more = record {
  within = omega (arith, h.within);
  least = λ k lt. (elim (cases_order k n) [
    | inl e ↦ subst (λ i. slice_index costs border ≤ slice_index costs i) (sym e) more
    | inr other ↦ elim other [
      | inl low ↦ h.least k low
      | inr past ↦ absurd (omega arith)
    ]
  ]);
  first = λ k lt s. (elim (cases_order k n) [
    | inl e ↦ omega (arith, e, h.within)
    | inr other ↦ elim other [
      | inl low ↦ h.first k low s
      | inr past ↦ absurd (omega arith)
    ]
  ]);
}

pub lowest_all : (costs : List ℕ) (border : ℕ) → IsLowestBelow costs 129 border → IsLowest costs border
lowest_all costs border h = record { within = h.within; least = h.least; first = h.first }
