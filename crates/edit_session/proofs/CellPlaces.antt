-- Lists of cells in their order, by what holds of them.
use Rattle.std.proofs.Common.{◌∙◌, ◌≡◌, ℕ, ◌<◌, ◌↔◌, ◌⊎◌, List, [], ◌∷◌, ◌++◌, get_or, sym, ap, inl, inr, arith}
use Rattle.std.specs.Prelude.{Contains}
use Rattle.std.specs.Cmp.Lexicographic.{slice_cmp}
use Rattle.std.specs.Ordering.{nat_cmp}
use Rattle.std.specs.declared.cmp.Ordering.TheVariants.{Less}
use Rattle.std.proofs.lemmas.Bool.Decides.{nat_tests}
use Rattle.std.proofs.lemmas.List.Elements.{Contains-append_cases, Contains-append_left, Contains-append_right, Contains-get_or}
use Rattle.rhythm_base.proofs.OrderedLists.{pairs_append, pairs_nil}
use Rattle.edit_session.specs.ReachedCells.{AreCellsWhere}

abbrev pub IsEarlierCell : ℕ × ℕ → ℕ × ℕ → Type 0
IsEarlierCell c d = slice_cmp nat_cmp (c.0 ∷ c.1 ∷ []) (d.0 ∷ d.1 ∷ []) ≡ Less

pub lower_voice : (c i d j : ℕ) → c < d → IsEarlierCell (c, i) (d, j)
lower_voice c i d j lt = grind (arith, nat_tests)

pub lower_bar : (c i d j : ℕ) → c ≡ d → i < j → IsEarlierCell (c, i) (d, j)
lower_bar c i d j same lt = grind (arith, nat_tests)

pub cells_append : (P Q : ℕ → ℕ → Type 0) (xs ys : List (ℕ × ℕ)) → AreCellsWhere P xs → AreCellsWhere Q ys
    → ((c i d j : ℕ) → P c i → Q d j → IsEarlierCell (c, i) (d, j)) → AreCellsWhere (λ c i. P c i ⊎ Q c i) (xs ++ ys)
cells_append P Q xs ys h k before = record {
  in_order = pairs_append IsEarlierCell xs ys h.in_order k.in_order (λ m d lt n e less.
      let x = get_or xs m d in
      let y = get_or ys n e in
      before x.0 x.1 y.0 y.1 ((h.exactly x.0 x.1).0 (Contains-get_or xs m d lt)) ((k.exactly y.0 y.1).0 (Contains-get_or ys n e less)));
  exactly = λ c i. (
    λ there. elim (Contains-append_cases xs ys (c, i) there) [ inl l ↦ inl ((h.exactly c i).0 l) | inr r ↦ inr ((k.exactly c i).0 r) ],
    λ p. elim p [ inl l ↦ Contains-append_left xs ys (c, i) ((h.exactly c i).1 l) | inr r ↦ Contains-append_right xs ys (c, i) ((k.exactly c i).1 r) ],
  );
}

pub cells_same : (P Q : ℕ → ℕ → Type 0) (xs : List (ℕ × ℕ)) → ((c i : ℕ) → P c i ↔ Q c i) → AreCellsWhere P xs → AreCellsWhere Q xs
cells_same P Q xs same h = record {
  in_order = h.in_order;
  exactly = λ c i. (λ there. (same c i).0 ((h.exactly c i).0 there), λ q. (h.exactly c i).1 ((same c i).1 q));
}

pub no_cells : (P : ℕ → ℕ → Type 0) → ((c i : ℕ) → P c i → ⊥) → AreCellsWhere P []
no_cells P none = record {
  in_order = pairs_nil IsEarlierCell;
  exactly = λ c i. (λ there. let lt = there.1 in absurd (omega (arith, lt)), λ p. absurd (none c i p));
}

pub one_cell : (a b : ℕ) → AreCellsWhere (λ c i. (c ≡ a) × (i ≡ b)) ((a, b) ∷ [])
one_cell a b = record {
  in_order = λ m n d lt within. absurd (omega (arith, lt, within));
  exactly = λ c i. (in_one c i, λ same. (0, omega arith, λ k. (sym same.0 k, sym same.1 k)));
}
  where
    in_one : (c i : ℕ) → Contains {X = ℕ × ℕ} ((a, b) ∷ []) (c, i) → (c ≡ a) × (i ≡ b)
    in_one c i there =
        let lt = there.1 in
        let first : there.0 ≡ 0 = omega (arith, lt) in
        let one : ℕ × ℕ = (a, b) in
        let is : one ≡ (c, i) = ap (λ k. get_or (one ∷ []) k (c, i)) (sym first) ∙ there.2 in
        (ap (λ (q : ℕ × ℕ). q.0) (sym is), ap (λ (q : ℕ × ℕ). q.1) (sym is))
