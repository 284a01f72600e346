-- The first of a list of cells, and the cells after it.
use Rattle.std.proofs.Common.{◌≡◌, ℕ, zero, suc, List, [], ◌∷◌, refl, sym, ap, subst, inl, inr, arith}
use Rattle.std.specs.Prelude.{Contains}
use Rattle.std.proofs.lemmas.Bool.{cases_order}
use Rattle.std.proofs.lemmas.Bool.Decides.{nat_tests}
use Rattle.rhythm_base.proofs.OrderedLists.{pairs_tail}
use Rattle.edit_session.specs.Exchange.{IsCellBefore}
use Rattle.edit_session.specs.ReachedCells.{AreCellsWhere}
use Rattle.edit_session.proofs.CellPlaces.{IsEarlierCell, lower_bar, lower_voice}

-- of two cells only one is earlier
one_way : (c i d j : ℕ) → IsEarlierCell (c, i) (d, j) → IsEarlierCell (d, j) (c, i) → ⊥
one_way c i d j h k = grind (arith, nat_tests)

not_itself : (c i : ℕ) → IsEarlierCell (c, i) (c, i) → ⊥
not_itself c i h = one_way c i c i h h

pub earlier_before : (a b c i : ℕ) → IsEarlierCell (c, i) (a, b) → IsCellBefore a b c i
earlier_before a b c i less = elim (cases_order c a) [
  | inl same ↦ elim (cases_order i b) [
    | inl here ↦ absurd (not_itself a b (subst (λ d. IsEarlierCell (d, b) (a, b)) same (subst (λ j. IsEarlierCell (c, j) (a, b)) here less)))
    | inr other ↦ elim other [ inl lt ↦ inr (same, lt) | inr gt ↦ absurd (one_way c i a b less (lower_bar a b c i (sym same) gt)) ]
  ]
  | inr other ↦ elim other [ inl lt ↦ inl lt | inr gt ↦ absurd (one_way c i a b less (lower_voice a b c i gt)) ]
]

module _ (P : ℕ → ℕ → Type 0) (a b : ℕ) where
  found : (xs : List (ℕ × ℕ)) → AreCellsWhere P xs → ((c i : ℕ) → P c i → IsCellBefore a b c i → ⊥) → Contains xs (a, b) → (rest : List (ℕ × ℕ)) × (xs ≡ (a, b) ∷ rest)
  found [] h none (k, lt, is) = absurd (omega (arith, lt))
  found (x ∷ xs) h none (zero, lt, is) = (xs, ap (λ c. c ∷ xs) is)
  found (x ∷ xs) h none (suc k, lt, is) =
      let earlier = h.in_order 0 (suc k) (a, b) (omega arith) lt in
      absurd (none x.0 x.1 ((h.exactly x.0 x.1).0 (0, omega arith, refl)) (earlier_before a b x.0 x.1 (subst (λ c. IsEarlierCell x c) is earlier)))

  -- a cell before all others is the first
  pub first_cell : (xs : List (ℕ × ℕ)) → AreCellsWhere P xs → P a b → ((c i : ℕ) → P c i → IsCellBefore a b c i → ⊥) → (rest : List (ℕ × ℕ)) × (xs ≡ (a, b) ∷ rest)
  first_cell xs h there none = found xs h none ((h.exactly a b).1 there)

  -- those after the first are the others
  pub rest_cells : (rest : List (ℕ × ℕ)) → AreCellsWhere P ((a, b) ∷ rest) → AreCellsWhere (λ c i. P c i × ((c ≡ a) × (i ≡ b) → ⊥)) rest
  rest_cells rest h = record {
    in_order = pairs_tail IsEarlierCell (a, b) rest h.in_order;
    exactly = λ c i. (there c i, λ p. back c i p.1 ((h.exactly c i).1 p.0));
  }
    where
      there : (c i : ℕ) → Contains rest (c, i) → P c i × ((c ≡ a) × (i ≡ b) → ⊥)
      there c i (k, lt, is) = (
        (h.exactly c i).0 (suc k, omega (arith, lt), is),
        λ same.
            let earlier : IsEarlierCell (a, b) (c, i) = subst (λ d. IsEarlierCell (a, b) d) is (h.in_order 0 (suc k) (c, i) (omega arith) (omega (arith, lt))) in
            not_itself a b (subst (λ d. IsEarlierCell (a, b) (d, b)) same.0 (subst (λ j. IsEarlierCell (a, b) (c, j)) same.1 earlier)),
      )

      back : (c i : ℕ) → ((c ≡ a) × (i ≡ b) → ⊥) → Contains {X = ℕ × ℕ} ((a, b) ∷ rest) (c, i) → Contains rest (c, i)
      back c i other (zero, lt, is) = absurd (other (ap (λ (q : ℕ × ℕ). q.0) (sym is), ap (λ (q : ℕ × ℕ). q.1) (sym is)))
      back c i other (suc k, lt, is) = (k, omega (arith, lt), is)
