-- Sums over what passes a test.
use Rattle.std.proofs.Common.{zero, suc, ◌≡◌, ℕ, ◌+◌, ◌≤◌, ◌<◌, Bool, true, false, cond, List, [], ◌∷◌, ◌++◌, length, take, get_or, add-zero, append-nil, refl, sym, ap, ◌∙◌, subst, arith}
use Rattle.std.specs.List.{filter, sum_by}
use Rattle.std.proofs.lemmas.List.Elements.{filter_more}
use Rattle.std.proofs.lemmas.List.Sums.{sum_by-cons, sum_by_push}
use Rattle.std.proofs.Math.Nat.{le-add_left, le-add_right, le_of_eq, le_trans}

module _ {X : Type 0} (p : X → Bool) (f : X → ℕ) where
  -- one more of a list, where it passes ..
  pub sum_more_yes : (xs : List X) (i : ℕ) (d : X) → i < length xs → p (get_or xs i d) ≡ true
      → sum_by f (filter p (take (i + 1) xs)) ≡ sum_by f (filter p (take i xs)) + f (get_or xs i d)
  sum_more_yes xs i d lt passes =
      ap (sum_by f) (filter_more p xs i d lt ∙ ap (λ b. filter p (take i xs) ++ cond b (get_or xs i d ∷ []) []) passes)
      ∙ sum_by_push f (filter p (take i xs)) (get_or xs i d)

  -- .. and where not
  pub sum_more_no : (xs : List X) (i : ℕ) (d : X) → i < length xs → p (get_or xs i d) ≡ false
      → sum_by f (filter p (take (i + 1) xs)) ≡ sum_by f (filter p (take i xs))
  sum_more_no xs i d lt fails =
      ap (sum_by f) (filter_more p xs i d lt ∙ ap (λ b. filter p (take i xs) ++ cond b (get_or xs i d ∷ []) []) fails ∙ append-nil (filter p (take i xs)))

  -- what passes is within the sum
  pub within_sum : (xs : List X) (i : ℕ) (d : X) → i < length xs → p (get_or xs i d) ≡ true → f (get_or xs i d) ≤ sum_by f (filter p xs)
  within_sum [] i d lt passes = absurd (omega arith)
  within_sum (x ∷ xs) zero d lt passes =
      let P : Bool → Type 0 = λ b. f x ≤ sum_by f (cond b (x ∷ filter p xs) (filter p xs)) in
      subst P (sym passes) (le_trans (le-add_right (f x) (sum_by f (filter p xs))) (le_of_eq (sym (sum_by-cons f x (filter p xs)))))
  within_sum (x ∷ xs) (suc i) d lt passes = at (p x) (within_sum xs i d (omega arith) passes)
    where
      at : (b : Bool) → f (get_or xs i d) ≤ sum_by f (filter p xs) → f (get_or xs i d) ≤ sum_by f (cond b (x ∷ filter p xs) (filter p xs))
      at true h = le_trans h (le_trans (le-add_left (sum_by f (filter p xs)) (f x)) (le_of_eq (sym (sum_by-cons f x (filter p xs)))))
      at false h = h

  -- where none passes the sum is nothing
  sum_none : (xs : List X) (d : X) → ((k : ℕ) → k < length xs → p (get_or xs k d) ≡ false) → sum_by f (filter p xs) ≡ 0
  sum_none [] d none = refl
  sum_none (x ∷ xs) d none =
      let P : Bool → Type 0 = λ b. sum_by f (cond b (x ∷ filter p xs) (filter p xs)) ≡ 0 in
      subst P (sym (none 0 (omega arith))) (sum_none xs d (λ k lt. none (suc k) (omega arith)))

  -- and where one alone does, it is the sum
  pub sum_alone : (xs : List X) (i : ℕ) (d : X) → i < length xs → p (get_or xs i d) ≡ true
      → ((k : ℕ) → k < length xs → p (get_or xs k d) ≡ true → k ≡ i) → sum_by f (filter p xs) ≡ f (get_or xs i d)
  sum_alone [] i d lt passes alone = absurd (omega arith)
  sum_alone (x ∷ xs) zero d lt passes alone =
      let P : Bool → Type 0 = λ b. sum_by f (cond b (x ∷ filter p xs) (filter p xs)) ≡ f x in
      subst P (sym passes) (sum_by-cons f x (filter p xs) ∙ ap (λ n. f x + n) (sum_none xs d others) ∙ add-zero (f x))
    where
      others : (k : ℕ) → k < length xs → p (get_or xs k d) ≡ false
      others k lt = at (p (get_or xs k d)) refl
        where
          at : (b : Bool) → p (get_or xs k d) ≡ b → b ≡ false
          at true e = (let same : suc k ≡ 0 = alone (suc k) (omega arith) e in absurd (omega arith))
          at false e = refl
  sum_alone (x ∷ xs) (suc i) d lt passes alone = at (p x) refl (sum_alone xs i d (omega arith) passes below)
    where
      below : (k : ℕ) → k < length xs → p (get_or xs k d) ≡ true → k ≡ i
      below k less e = let same : suc k ≡ suc i = alone (suc k) (omega arith) e in omega arith

      at : (b : Bool) → p x ≡ b → sum_by f (filter p xs) ≡ f (get_or xs i d)
          → sum_by f (cond b (x ∷ filter p xs) (filter p xs)) ≡ f (get_or xs i d)
      at true e h = (let same : 0 ≡ suc i = alone 0 (omega arith) e in absurd (omega arith))
      at false e h = h
