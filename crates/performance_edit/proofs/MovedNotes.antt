-- A list with one element left out, and a note that is moved where no other stands between its old place and its new one.
use Rattle.std.proofs.Common.{◌≡◌, ℕ, zero, suc, ◌+◌, ◌-◌, ◌≤◌, ◌<◌, true, false, List, [], ◌∷◌, ◌++◌, length, get_or, take, drop, refl, sym, ap, ◌∙◌, subst, subst₂, arith, inl, inr, ◌⊎◌, Some, None}
use Rattle.std.specs.List.{AllWithin, insert}
use Rattle.std.specs.Prelude.{AllPairs, find, slice_get}
use Rattle.std.proofs.lemmas.Bool.{cases_lt}
use Rattle.rhythm_base.specs.declared.note.Note.{Note}
use Rattle.rhythm_base.specs.Lists.{earlier, list_with}
use Rattle.rhythm_base.specs.Performance.{place_of_note}
use Rattle.edit_laws.specs.Edits.{is_note, moved_to}
use Rattle.performance_edit.specs.Changed.{with_moved}
use Rattle.performance_edit.specs.OnlyPlaces.{IsOnlyPlace}
use Rattle.performance_edit.proofs.OnlyPlaces.{filter-none, filter-only, find-none, find-only}
use Rattle.performance_edit.proofs.Places.{list_with-insert}

module _ {X : Type 0} where
  abbrev pub left_out : List X → ℕ → List X
  left_out xs i = take i xs ++ drop (suc i) xs

  get_before : (xs : List X) (i k : ℕ) (d : X) → k < i → get_or (left_out xs i) k d ≡ get_or xs k d
  get_before xs zero k d lt = absurd (omega (arith, lt))
  get_before [] (suc i) k d lt = refl
  get_before (x ∷ xs) (suc i) zero d lt = refl
  get_before (x ∷ xs) (suc i) (suc k) d lt = get_before xs i k d (omega (arith, lt))

  get_after : (xs : List X) (i k : ℕ) (d : X) → i ≤ k → i < length xs → get_or (left_out xs i) k d ≡ get_or xs (suc k) d
  get_after [] i k d le lt = absurd (omega (arith, lt))
  get_after (x ∷ xs) zero k d le lt = refl
  get_after (x ∷ xs) (suc i) zero d le lt = absurd (omega (arith, le))
  get_after (x ∷ xs) (suc i) (suc k) d le lt = get_after xs i k d (omega (arith, le)) (omega (arith, lt))

  pub one_fewer : (xs : List X) (i : ℕ) → i < length xs → suc (length (left_out xs i)) ≡ length xs
  one_fewer [] i lt = absurd (omega (arith, lt))
  one_fewer (x ∷ xs) zero lt = refl
  one_fewer (x ∷ xs) (suc i) lt = ap suc (one_fewer xs i (omega (arith, lt)))

  put_back : (x : X) (xs : List X) (i : ℕ) → i < length xs → insert (left_out xs i) i x ≡ take i xs ++ (x ∷ drop (suc i) xs)
  put_back x [] i lt = absurd (omega (arith, lt))
  put_back x (y ∷ xs) zero lt = refl
  put_back x (y ∷ xs) (suc i) lt = ap (λ l. y ∷ l) (put_back x xs i (omega (arith, lt)))

  -- the others are in order
  pub others_in_order : (R : X → X → Type 0) (xs : List X) (i : ℕ) → i < length xs → AllPairs R xs → AllPairs R (left_out xs i)
  others_in_order R xs i lt order a b d less within =
      let count = one_fewer xs i lt in
      elim (cases_lt a i) [
        | inl early ↦ elim (cases_lt b i) [
          | inl both ↦ subst₂ R (sym (get_before xs i a d early)) (sym (get_before xs i b d both)) (order a b d less (omega (arith, both, lt)))
          | inr late ↦ subst₂ R (sym (get_before xs i a d early)) (sym (get_after xs i b d late lt)) (order a (suc b) d (omega (arith, less)) (omega (arith, within, count)))
        ]
        | inr late ↦
            subst₂ R (sym (get_after xs i a d late lt)) (sym (get_after xs i b d (omega (arith, late, less)) lt))
            (order (suc a) (suc b) d (omega (arith, less)) (omega (arith, within, count)))
      ]

-- between its old place and its new one no other note stands
module _ (note : Note) (notes : List Note) (i n : ℕ) (within : i < length notes) (near : (n ≡ i) ⊎ (n - 1 ≡ i))
    (front : AllWithin (λ y. earlier (place_of_note y) (place_of_note note) ≡ true) notes 0 n)
    (back : AllWithin (λ y. earlier (place_of_note y) (place_of_note note) ≡ false) notes n (length notes)) where
  low : i ≤ n
  low = elim near [ inl same ↦ omega (arith, same) | inr next ↦ omega (arith, next) ]

  high : n ≤ suc i
  high = elim near [ inl same ↦ omega (arith, same) | inr next ↦ omega (arith, next) ]

  pub written_over : take i notes ++ ((note ∷ []) ++ drop (i + 1) notes) ≡ list_with place_of_note note (take i notes ++ drop (i + 1) notes)
  written_over =
      let next : i + 1 ≡ suc i = omega arith in
      let count = one_fewer notes i within in
      ap (λ k. take i notes ++ (note ∷ drop k notes)) next
      ∙ sym (put_back note notes i within)
      ∙ list_with-insert place_of_note note (left_out notes i) i (omega (arith, count, within))
      (λ k d l h. ap (λ (y : Note). earlier (place_of_note y) (place_of_note note)) (get_before notes i k d h) ∙ front k d l (omega (arith, h, low)))
      (λ k d l h. ap (λ (y : Note). earlier (place_of_note y) (place_of_note note)) (get_after notes i k d l within) ∙ back (suc k) d (omega (arith, l, high)) (omega (arith, h, count)))
      ∙ ap (λ k. list_with place_of_note note (take i notes ++ drop k notes)) (sym next)

-- ---- the note of a channel, key and onset moved

module _ (channel key onset to : ℕ) (notes : List Note) where
  pub moved_none : IsOnlyPlace (is_note channel key onset) notes None → notes ≡ with_moved channel key onset to notes
  moved_none none = rw (find-none (is_note channel key onset) notes none) (sym (filter-none (is_note channel key onset) notes none))

  pub found_note : (i : ℕ) (note : Note) → IsOnlyPlace (is_note channel key onset) notes (Some i) → slice_get notes i ≡ Some note → find (is_note channel key onset) notes ≡ Some note
  found_note i note only at = find-only (is_note channel key onset) notes i only ∙ at

  pub moved_one : (i : ℕ) (note : Note) → IsOnlyPlace (is_note channel key onset) notes (Some i) → slice_get notes i ≡ Some note
      → list_with place_of_note (moved_to to note) (take i notes ++ drop (i + 1) notes) ≡ with_moved channel key onset to notes
  moved_one i note only at =
      let next : i + 1 ≡ suc i = omega arith in
      rw (found_note i note only at)
      (ap (λ k. list_with place_of_note (moved_to to note) (take i notes ++ drop k notes)) next
      ∙ ap (λ (l : List Note). list_with place_of_note (moved_to to note) l) (sym (filter-only (is_note channel key onset) notes i only)))
