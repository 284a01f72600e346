-- The costs of a product are sums of costs of its two sides.
use Rattle.std.proofs.Common.{◌≡◌, inl, inr, ℕ, zero, suc, ◌+◌, ◌^◌, ◌<◌, ◌≤◌, [], ◌∷◌, refl, sym, subst, ap, ◌∙◌, arith}
use Rattle.std.specs.Prelude.{Option, Some, None, slice_index_or}
use Rattle.std.proofs.lemmas.Bool.{cases_lt}
use Rattle.rhythm_base.specs.declared.best.Best.{Best}
use Rattle.rhythm_base.specs.Ranked.{CarryMatrix, at, grid, five, Key, Sum, summed, sum_before, sum_key, count_under, ranked, choice, product_of}
use Rattle.rhythm_base.specs.Paths.{AreLow}
use Rattle.path_laws.proofs.Picks.{Held, pick_held}
use Rattle.path_laws.proofs.Products.{grid_at, five_at}

past_five : {A : Type 0} (f : ℕ → A) (z : A) (b : ℕ) → 5 ≤ b → slice_index_or (five f) b z ≡ z
past_five f z zero h = absurd (omega arith)
past_five f z (suc zero) h = absurd (omega arith)
past_five f z (suc (suc zero)) h = absurd (omega arith)
past_five f z (suc (suc (suc zero))) h = absurd (omega arith)
past_five f z (suc (suc (suc (suc zero)))) h = absurd (omega arith)
past_five f z (suc (suc (suc (suc (suc b))))) h = refl

-- entries stand only at counts below 5
pub grid_place : (f : ℕ → ℕ → Option Best) (i j : ℕ) (e : Best) → at (grid f) i j ≡ Some e → (i < 5) × (j < 5)
grid_place f i j e s = elim (cases_lt i 5) [
  | inl li ↦
      elim (cases_lt j 5) [
        | inl lj ↦ (li, lj)
        | inr hj ↦
            let row : at (grid f) i j ≡ slice_index_or (five (f i)) j None = ap (λ r. slice_index_or r j None) (five_at (λ c. five (f c)) [] i li) in
            let no : None ≡ Some e = sym (past_five (f i) None j hj) ∙ sym row ∙ s in
            absurd (cc)
      ]
  | inr hi ↦
      let row : at (grid f) i j ≡ slice_index_or {A = Option Best} [] j None = ap (λ r. slice_index_or r j None) (past_five (λ c. five (f c)) [] i hi) in
      let no : None ≡ Some e = sym row ∙ s in
      absurd (cc)
]

pub grid_entry : (f : ℕ → ℕ → Option Best) (i j : ℕ) (e : Best) → at (grid f) i j ≡ Some e → f i j ≡ Some e
grid_entry f i j e s =
    let place = grid_place f i j e s in
    sym (grid_at f i j place.0 place.1) ∙ s

pub ranked_cost : (row : ℕ → Option Key) (o : Option (ℕ × Sum)) (e : Best) → ranked row (sum_key o) ≡ Some e → (x : ℕ × Sum) × (o ≡ Some x) × (e.cost ≡ x.1.0)
ranked_cost row None e s = absurd (cc)
ranked_cost row (Some x) e s =
    let same : record { cost = x.1.0; rank = count_under row (x.1.1 ∷ x.1.2 ∷ []) 5 } ≡ e = cc in
    (x, refl, sym (ap (λ (b : Best). b.cost) same))

pub sum_parts : (a b : Option Best) (s : Sum) → summed a b ≡ Some s → (x : Best) × (y : Best) × (a ≡ Some x) × (b ≡ Some y) × (s ≡ (x.cost + y.cost, x.rank, y.rank))
sum_parts None b s e = absurd (cc)
sum_parts (Some x) None s e = absurd (cc)
sum_parts (Some x) (Some y) s e =
    let same : (x.cost + y.cost, x.rank, y.rank) ≡ s = cc in
    (x, y, refl, refl, sym same)

-- an entry of the product is a sum
pub product_cost : (a b : CarryMatrix) (i j : ℕ) (e : Best) → at (product_of a b) i j ≡ Some e
    → (m : ℕ) × (x : Best) × (y : Best) × (at a i m ≡ Some x) × (at b m j ≡ Some y) × (e.cost ≡ x.cost + y.cost)
unfolding product_of choice
product_cost a b i j e s =
    let r = ranked_cost (λ n. sum_key (choice a b i n)) (choice a b i j) e (grid_entry (λ i j. ranked (λ n. sum_key (choice a b i n)) (sum_key (choice a b i j))) i j e s) in
    let held : Held (λ m. summed (at a i m) (at b m j)) 5 (Some r.0) = subst (Held (λ m. summed (at a i m) (at b m j)) 5) r.1 (pick_held sum_before (λ m. summed (at a i m) (at b m j)) 5) in
    let q = sum_parts (at a i r.0.0) (at b r.0.0 j) r.0.1 held.1 in
    (r.0.0, q.0, q.1, q.2, q.3, r.2 ∙ ap (λ (s : Sum). s.0) q.4)

pub product_low : (a b : CarryMatrix) → ((i j k l : ℕ) (x y : Best) → at a i j ≡ Some x → at b k l ≡ Some y → x.cost + y.cost < 2 ^ 62) → AreLow (product_of a b)
product_low a b small i j e s =
    let q = product_cost a b i j e s in
    let low : q.1.cost + q.2.cost < 2 ^ 62 = small i q.0 q.0 j q.1 q.2 q.3 q.4 in
    omega (arith, q.5, low)
