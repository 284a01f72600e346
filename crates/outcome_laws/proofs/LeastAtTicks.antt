-- Each list has its first of least value at each tick.
use Rattle.std.proofs.Common.{◌≡◌, ◌<◌, ◌≤◌, ◌⊎◌, inl, inr, ℕ, List, [], ◌∷◌, ◌++◌, append-nil, append_assoc, subst, sym, arith}
use Rattle.std.specs.Prelude.{Contains}
use Rattle.std.specs.Cmp.Lexicographic.{slice_cmp}
use Rattle.std.specs.Ordering.{nat_cmp}
use Rattle.std.specs.declared.cmp.Ordering.TheVariants.{Less}
use Rattle.std.proofs.lemmas.Bool.{cases_eq, cases_lt}
use Rattle.answer_laws.proofs.FiniteSets.{member_first, member_later, no_member}
use Rattle.barline_follow.specs.Least.{AreFirstLeast}
use Rattle.barline_follow.proofs.FirstLeast.{got_contained, new_kept, same_kept}
use Rattle.rhythm_base.proofs.FirstLists.{contains_split}
use Rattle.rhythm_base.proofs.OrderedLists.{pairs_nil}

module _ {X : Type 0} (value tick : X → ℕ) where
  abbrev HasLeast : List X → Type 0
  HasLeast xs = (kept : List X) × AreFirstLeast value tick xs kept

  none_kept : AreFirstLeast value tick [] []
  none_kept = record {
    in_order = pairs_nil (λ x y. slice_cmp nat_cmp (value x ∷ tick x ∷ []) (value y ∷ tick y ∷ []) ≡ Less);
    exactly = λ x. ((λ there. absurd (no_member x there)), λ first. got_contained [] first.place x first.there);
  }

  -- one at the tick of x that is no dearer
  abbrev Covers : X → X → Type 0
  Covers x k = (tick k ≡ tick x) × (value k ≤ value x)

  covered_or_not : (x : X) (kept : List X) → ((k : X) × Contains kept k × Covers x k) ⊎ ((k : X) → Contains kept k → Covers x k → ⊥)
  covered_or_not x [] = inr (λ k there covers. no_member k there)
  covered_or_not x (y ∷ kept) = go (cases_eq (tick y) (tick x)) (cases_lt (value x) (value y)) (covered_or_not x kept)
    where
      not_own : (Covers x y → ⊥) → ((k : X) → Contains kept k → Covers x k → ⊥) → (k : X) → Contains (y ∷ kept) k → Covers x k → ⊥
      not_own never none k there covers = elim (contains_split k y kept there) [
        | inl same ↦ never (subst (Covers x) (sym same) covers)
        | inr later ↦ none k later covers
      ]

      go : (tick y ≡ tick x) ⊎ (tick y ≡ tick x → ⊥) → (value x < value y) ⊎ (value y ≤ value x)
          → ((k : X) × Contains kept k × Covers x k) ⊎ ((k : X) → Contains kept k → Covers x k → ⊥)
          → ((k : X) × Contains (y ∷ kept) k × Covers x k) ⊎ ((k : X) → Contains (y ∷ kept) k → Covers x k → ⊥)
      go same low (inl found) = inl (found.0, member_later found.0 y kept found.1, found.2)
      go (inl same) (inr low) (inr none) = inl (y, member_first y kept, (same, low))
      go (inl same) (inl high) (inr none) = inr (not_own (λ covers. omega (arith, covers.1, high)) none)
      go (inr other) low (inr none) = inr (not_own (λ covers. other covers.0) none)

  one_more : (done : List X) (x : X) → HasLeast done → HasLeast (done ++ x ∷ [])
  one_more done x (kept, are) = elim (covered_or_not x kept) [
    | inl found ↦ (kept, same_kept value tick done x kept are found.0 found.1 found.2.0 found.2.1)
    | inr none ↦ (_, new_kept value tick done x kept are (λ k there same low. none k there (same, low)))
  ]

  after : (done rest : List X) → HasLeast done → HasLeast (done ++ rest)
  after done [] has = subst HasLeast (sym (append-nil done)) has
  after done (x ∷ rest) has = subst HasLeast (append_assoc done (x ∷ []) rest) (after (done ++ x ∷ []) rest (one_more done x has))

  pub some_first_least : (xs : List X) → HasLeast xs
  some_first_least xs = after [] xs ([], none_kept)
