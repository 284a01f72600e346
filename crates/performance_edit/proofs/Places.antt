-- One more in a list in order: it stands at the place that a search finds.
use Rattle.std.proofs.Common.{◌≡◌, ℕ, zero, suc, ◌≤◌, ◌<◌, Bool, true, false, not, List, [], ◌∷◌, ◌++◌, length, get_or, refl, ap, arith, inl, inr, ◌⊎◌, ◌∙◌}
use Rattle.std.specs.List.{AllWithin, insert}
use Rattle.std.specs.List.Sorted.{IsPartitionedBy}
use Rattle.std.specs.Prelude.{filter, if◌then◌else◌}
use Rattle.std.specs.Ordering.{is_lt}
use Rattle.std.proofs.lemmas.Bool.{cases_lt}
use Rattle.rhythm_base.specs.Lists.{AreInOrder, earlier, list_with}
use Rattle.rhythm_base.proofs.OrderedLists.{goes_through}

-- one more after those that pass
module _ {X : Type 0} (p : X → Bool) (x : X) where
  abbrev put_after : List X → List X
  put_after xs = filter p xs ++ (x ∷ filter (λ y. not (p y)) xs)

  none_passes_on : (xs : List X) → AllWithin (λ y. p y ≡ false) xs 0 (length xs) → (filter p xs ≡ []) × (filter (λ y. not (p y)) xs ≡ xs)
  none_passes_on [] none = (refl, refl)
  none_passes_on (y ∷ xs) none = at (p y) (none 0 y (omega arith) (omega arith)) (none_passes_on xs (λ k d l h. none (suc k) d (omega arith) (omega arith)))
    where
      at : (b : Bool) → b ≡ false → (filter p xs ≡ []) × (filter (λ y. not (p y)) xs ≡ xs)
          → ((if b then y ∷ filter p xs else filter p xs) ≡ []) × ((if not b then y ∷ filter (λ y. not (p y)) xs else filter (λ y. not (p y)) xs) ≡ y ∷ xs)
      at true wrong rest = absurd (cc)
      at false is rest = (rest.0, ap (λ l. y ∷ l) rest.1)

  put_after-insert : (xs : List X) (n : ℕ) → n ≤ length xs → AllWithin (λ y. p y ≡ true) xs 0 n → AllWithin (λ y. p y ≡ false) xs n (length xs)
      → insert xs n x ≡ put_after xs
  put_after-insert xs zero few front back = let none = none_passes_on xs back in rw (none.0, none.1) refl
  put_after-insert [] (suc n) few front back = absurd (omega arith)
  put_after-insert (y ∷ xs) (suc n) few front back =
      at (p y) (front 0 y (omega arith) (omega arith))
      (put_after-insert xs n (omega arith) (λ k d l h. front (suc k) d (omega arith) (omega arith)) (λ k d l h. back (suc k) d (omega arith) (omega arith)))
    where
      at : (b : Bool) → b ≡ true → insert xs n x ≡ put_after xs
          → y ∷ insert xs n x ≡ (if b then y ∷ filter p xs else filter p xs) ++ (x ∷ (if not b then y ∷ filter (λ y. not (p y)) xs else filter (λ y. not (p y)) xs))
      at true is rest = ap (λ l. y ∷ l) rest
      at false wrong rest = absurd (cc)

module _ {X : Type 0} (place : X → List ℕ) (x : X) where
  abbrev pub is_before : X → Bool
  is_before y = earlier (place y) (place x)

  -- those before it are a front of a list in order
  pub before-front : (xs : List X) → AreInOrder place xs → IsPartitionedBy is_before xs
  before-front xs in_order i j d le within early = at (cases_lt i j)
    where
      at : (i < j) ⊎ (j ≤ i) → is_before (get_or xs i d) ≡ true
      at (inl lt) = goes_through (place (get_or xs i d)) (place (get_or xs j d)) (place x) (ap is_lt (in_order i j d lt within)) early
      at (inr ge) = let same : i ≡ j = omega (arith, le, ge) in ap (λ k. is_before (get_or xs k d)) same ∙ early

  pub list_with-insert : (xs : List X) (n : ℕ) → n ≤ length xs → AllWithin (λ y. is_before y ≡ true) xs 0 n → AllWithin (λ y. is_before y ≡ false) xs n (length xs)
      → insert xs n x ≡ list_with place x xs
  list_with-insert xs n few front back = put_after-insert is_before x xs n few front back
