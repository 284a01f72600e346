-- The sources of a list of inputs, one longer, and the numbers of those that are searched.
use Rattle.std.proofs.Common.{◌≡◌, ℕ, zero, suc, ◌+◌, ◌<◌, ◌≤◌, List, [], ◌∷◌, ◌++◌, length, refl, sym, ap, subst, ◌∙◌, append-nil, arith, All}
use Rattle.std.specs.Prelude.{Option, Some, None, slice_get}
use Rattle.std.proofs.lemmas.List.Elements.{All-cons, All-nil}
use Rattle.bar_pool.specs.Sources.{searched_from}

-- one more that has what its place asks for
pub each_push : {X : Type 0} (P : ℕ → X → Type 0) (xs : List X) (x : X) → ((k : ℕ) (y : X) → slice_get xs k ≡ Some y → P k y) → P (length xs) x
    → (k : ℕ) (y : X) → slice_get (xs ++ x ∷ []) k ≡ Some y → P k y
each_push P [] x h own zero y e = let same : x ≡ y = cc in subst (P 0) same own
each_push P [] x h own (suc k) y e = absurd (cc)
each_push P (z ∷ xs) x h own zero y e = h zero y e
each_push P (z ∷ xs) x h own (suc k) y e = each_push (λ m. P (suc m)) xs x (λ m w. h (suc m) w) own k y e

pub searched_push : (n : ℕ) (xs : List (Option ℕ)) (s : Option ℕ) → searched_from n (xs ++ s ∷ []) ≡ searched_from n xs ++ searched_from (n + length xs) (s ∷ [])
searched_push n [] s = let here : n ≡ n + 0 = omega arith in ap (λ m. searched_from m (s ∷ [])) here
searched_push n (None ∷ xs) s =
    let place : (n + 1) + length xs ≡ n + length (None ∷ xs) = omega arith in
    ap (λ l. n ∷ l) (searched_push (n + 1) xs s ∙ ap (λ m. searched_from (n + 1) xs ++ searched_from m (s ∷ [])) place)
searched_push n (Some earlier ∷ xs) s =
    let place : (n + 1) + length xs ≡ n + length (Some earlier ∷ xs) = omega arith in
    searched_push (n + 1) xs s ∙ ap (λ m. searched_from (n + 1) xs ++ searched_from m (s ∷ [])) place

pub searched_few : (n : ℕ) (xs : List (Option ℕ)) → length (searched_from n xs) ≤ length xs
searched_few n [] = omega arith
searched_few n (None ∷ xs) = omega (arith, searched_few (n + 1) xs)
searched_few n (Some earlier ∷ xs) = omega (arith, searched_few (n + 1) xs)

-- the numbers of the searched inputs, where the next has no source, and where it has one
module _ (n : ℕ) (xs : List (Option ℕ)) (old new : List ℕ) (long : length xs ≡ n) (is : old ≡ searched_from 0 xs) where
  here : (s : Option ℕ) → searched_from 0 (xs ++ s ∷ []) ≡ old ++ searched_from n (s ∷ [])
  here s =
      let place : 0 + length xs ≡ n = omega (arith, long) in
      searched_push 0 xs s ∙ ap (λ l. l ++ searched_from (0 + length xs) (s ∷ [])) (sym is) ∙ ap (λ m. old ++ searched_from m (s ∷ [])) place

  pub searched_one : (s : Option ℕ) → s ≡ None → new ≡ old ++ n ∷ [] → new ≡ searched_from 0 (xs ++ s ∷ [])
  searched_one s none e = e ∙ sym (here None) ∙ ap (λ o. searched_from 0 (xs ++ o ∷ [])) (sym none)

  pub searched_same : (s : Option ℕ) → (s ≡ None → ⊥) → new ≡ old → new ≡ searched_from 0 (xs ++ s ∷ [])
  searched_same None some e = absurd (some refl)
  searched_same (Some earlier) some e = e ∙ sym (append-nil old) ∙ sym (here (Some earlier))

pub searched_below : (n m : ℕ) (xs : List (Option ℕ)) → n + length xs ≤ m → All (λ k. k < m) (searched_from n xs)
searched_below n m [] long = All-nil (λ k. k < m)
searched_below n m (None ∷ xs) long = All-cons (λ k. k < m) n (searched_from (n + 1) xs) (omega (arith, long)) (searched_below (n + 1) m xs (omega (arith, long)))
searched_below n m (Some earlier ∷ xs) long = searched_below (n + 1) m xs (omega (arith, long))
