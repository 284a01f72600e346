-- An entry of a product is the least of the sums that meet.
use Rattle.std.proofs.Common.{◌≡◌, ◌↔◌, ℕ, zero, suc, ◌+◌, ◌<◌, ◌≤◌, ◌⊎◌, inl, inr, Bool, true, false, [], ◌∷◌, refl, sym, subst, ap, ◌∙◌, arith}
use Rattle.std.specs.Prelude.{Option, Some, None, if◌then◌else◌}
use Rattle.std.proofs.lemmas.Bool.{cases_lt}
use Rattle.std.proofs.lemmas.Bool.Decides.{nat_tests}
use Rattle.rhythm_base.specs.declared.best.Best.{Best}
use Rattle.rhythm_base.specs.Paths.{IsRanked}
use Rattle.rhythm_base.specs.Ranked.{CarryMatrix, Key, at, Sum, summed, sum_before, sum_key, better, count_under, pick, ranked, choice, product_of}
use Rattle.path_laws.specs.Meetings.{IsNoLater, Meeting, sum_of}
use Rattle.path_laws.proofs.LeastKeys.{last}
use Rattle.path_laws.proofs.Picks.{Held, pick_held}
use Rattle.path_laws.proofs.ProductCosts.{grid_entry, grid_place, ranked_cost, sum_parts}
use Rattle.path_laws.proofs.Products.{grid_at}

-- ---- what is picked is the lowest

module _ {X : Type 0} (lt : X → X → Bool) (above : (x y z : X) → lt x y ≡ false → lt y z ≡ false → lt x z ≡ false) (turned : (x y : X) → lt x y ≡ true → lt y x ≡ false) (c : ℕ → Option X) where
  abbrev pub Lowest : ℕ → Option (ℕ × X) → Type 0
  Lowest n None = (m : ℕ) → m < n → c m ≡ None
  Lowest n (Some x) = (m : ℕ) (y : X) → m < n → c m ≡ Some y → lt y x.1 ≡ false

  not_itself : (x : X) → lt x x ≡ false
  not_itself x = go (lt x x) refl
    where
      go : (t : Bool) → lt x x ≡ t → lt x x ≡ false
      go true e = turned x x e
      go false e = e

  better_lowest : (n : ℕ) (o : Option (ℕ × X)) (p : Option X) → Lowest n o → c n ≡ p → Lowest (suc n) (better lt o n p)
  better_lowest n None None h e = λ m low. elim (last m n low) [
    | inl less ↦ h m less
    | inr same ↦ ap c same ∙ e
  ]
  better_lowest n (Some x) None h e = λ m y low s. elim (last m n low) [
    | inl less ↦ h m y less s
    | inr same ↦ let no : None ≡ Some y = sym e ∙ ap c (sym same) ∙ s in absurd (cc)
  ]
  better_lowest n None (Some z) h e = λ m y low s. elim (last m n low) [
    | inl less ↦ let no : None ≡ Some y = sym (h m less) ∙ s in absurd (cc)
    | inr same ↦
        let there : Some y ≡ Some z = sym s ∙ ap c same ∙ e in
        let is : z ≡ y = cc in
        subst (λ q. lt q z ≡ false) is (not_itself z)
  ]
  better_lowest n (Some x) (Some z) h e = go (lt z x.1) refl
    where
      go : (t : Bool) → lt z x.1 ≡ t → Lowest (suc n) (if t then Some (n, z) else Some x)
      go true f = λ m y low s. elim (last m n low) [
        | inl less ↦ above y x.1 z (h m y less s) (turned z x.1 f)
        | inr same ↦
            let there : Some y ≡ Some z = sym s ∙ ap c same ∙ e in
            let is : z ≡ y = cc in
            subst (λ q. lt q z ≡ false) is (not_itself z)
      ]
      go false f = λ m y low s. elim (last m n low) [
        | inl less ↦ h m y less s
        | inr same ↦
            let there : Some y ≡ Some z = sym s ∙ ap c same ∙ e in
            let is : z ≡ y = cc in
            subst (λ q. lt q x.1 ≡ false) is f
      ]

  pub pick_lowest : (n : ℕ) → Lowest n (pick lt c n)
  pick_lowest zero = λ m low. absurd (omega (arith, low))
  pick_lowest (suc n) = better_lowest n (pick lt c n) (c n) (pick_lowest n) refl

-- ---- sums

sum_above : (x y z : Sum) → sum_before x y ≡ false → sum_before y z ≡ false → sum_before x z ≡ false
sum_above x y z h k = grind (arith, nat_tests)

sum_turned : (x y : Sum) → sum_before x y ≡ true → sum_before y x ≡ false
sum_turned x y h = grind (arith, nat_tests)

no_later : (x y : Sum) → sum_before y x ≡ false → (x.0 < y.0) ⊎ ((x.0 ≡ y.0) × (x.1 ≤ y.1))
no_later x y h = elim (cases_lt x.0 y.0) [
  | inl less ↦ inl less
  | inr more ↦ inr (grind (arith, nat_tests), grind (arith, nat_tests))
]

-- ---- an entry of the product

none_some : {T : Type 0} (x : T) → None ≡ Some x → ⊥
none_some x e = absurd (cc)

not_ranked : (row : ℕ → Option Key) (w : ℕ × Sum) → None ≡ ranked row (sum_key (Some w)) → ⊥
not_ranked row w e = none_some (record { cost = w.1.0; rank = count_under row (w.1.1 ∷ w.1.2 ∷ []) 5 }) e

module _ (a b : CarryMatrix) (from to : ℕ) (ra : IsRanked a) (rb : IsRanked b) where
  abbrev sums : ℕ → Option Sum
  sums m = summed (at a from m) (at b m to)

  meeting_sum : (x : Meeting a b from to) → sums x.count ≡ Some (sum_of x, x.left.rank, x.right.rank)
  meeting_sum x = λ i. summed (x.in_left i) (x.in_right i)

  lowest : Lowest sum_before sum_above sum_turned sums 5 (choice a b from to)
  unfolding choice
  lowest = pick_lowest sum_before sum_above sum_turned sums 5

  held : Held sums 5 (choice a b from to)
  unfolding choice
  held = pick_held sum_before sums 5

  product_row : ℕ → Option Key
  product_row n = sum_key (choice a b from n)

  entry_is : from < 5 → to < 5 → at (product_of a b) from to ≡ ranked product_row (sum_key (choice a b from to))
  unfolding product_of product_row
  entry_is lf lt = grid_at (λ i j. ranked (λ n. sum_key (choice a b i n)) (sum_key (choice a b i j))) from to lf lt

  no_meeting : at (product_of a b) from to ≡ None → Meeting a b from to → ⊥
  no_meeting e x = go (choice a b from to) refl
    where
      place : (from < 5) × (to < 5)
      place = (
        (grid_place (at a) from x.count x.left (ap (λ m. at m from x.count) (sym ra.shape) ∙ x.in_left)).0,
        (grid_place (at b) x.count to x.right (ap (λ m. at m x.count to) (sym rb.shape) ∙ x.in_right)).1,
      )

      go : (o : Option (ℕ × Sum)) → choice a b from to ≡ o → ⊥
      go None s =
          let none : sums x.count ≡ None = subst (Lowest sum_before sum_above sum_turned sums 5) s lowest x.count x.few in
          none_some (sum_of x, x.left.rank, x.right.rank) (sym none ∙ meeting_sum x)
      go (Some w) s =
          not_ranked product_row w (sym e ∙ entry_is place.0 place.1 ∙ ap (λ o. ranked product_row (sum_key o)) s)

  pub least_meeting : (e : Best) → at (product_of a b) from to ≡ Some e → (x : Meeting a b from to) × (e.cost ≡ sum_of x) × ((y : Meeting a b from to) → IsNoLater x y)
  unfolding product_of
  least_meeting e s = (met, cost ∙ ap (λ (q : Sum). q.0) parts.4, first)
    where
      found : (w : ℕ × Sum) × (choice a b from to ≡ Some w) × (e.cost ≡ w.1.0)
      found = ranked_cost (λ n. sum_key (choice a b from n)) (choice a b from to) e (grid_entry (λ i j. ranked (λ n. sum_key (choice a b i n)) (sum_key (choice a b i j))) from to e s)

      w : ℕ × Sum
      w = found.0

      cost : e.cost ≡ w.1.0
      cost = found.2

      here : (w.0 < 5) × (sums w.0 ≡ Some w.1)
      here = subst (Held sums 5) found.1 held

      parts : (x : Best) × (y : Best) × (at a from w.0 ≡ Some x) × (at b w.0 to ≡ Some y) × (w.1 ≡ (x.cost + y.cost, x.rank, y.rank))
      parts = sum_parts (at a from w.0) (at b w.0 to) w.1 here.1

      met : Meeting a b from to
      met = record { count = w.0; few = here.0; left = parts.0; right = parts.1; in_left = parts.2; in_right = parts.3 }

      first : (y : Meeting a b from to) → IsNoLater met y
      first y =
          let above : sum_before (sum_of y, y.left.rank, y.right.rank) w.1 ≡ false =
          subst (Lowest sum_before sum_above sum_turned sums 5) found.1 lowest y.count (sum_of y, y.left.rank, y.right.rank) y.few (meeting_sum y) in
          no_later (sum_of met, met.left.rank, met.right.rank) (sum_of y, y.left.rank, y.right.rank) (ap (sum_before (sum_of y, y.left.rank, y.right.rank)) (sym parts.4) ∙ above)

  pub none_meets : (at (product_of a b) from to ≡ None) ↔ (Meeting a b from to → ⊥)
  none_meets = (no_meeting, λ f. go f (at (product_of a b) from to) refl)
    where
      go : (Meeting a b from to → ⊥) → (o : Option Best) → at (product_of a b) from to ≡ o → o ≡ None
      go f None e = refl
      go f (Some e) s = absurd (f (least_meeting e s).0)
