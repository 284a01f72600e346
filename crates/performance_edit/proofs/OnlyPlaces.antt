-- What is found at the one place where a test passes, and what is left without it; and why a search of notes finds it.
use Rattle.std.proofs.Common.{◌≡◌, ℕ, zero, suc, ◌+◌, ◌<◌, ◌≤◌, Bool, true, false, ◌&&◌, ◌||◌, not, List, [], ◌∷◌, ◌++◌, length, take, drop, get_or, refl, sym, ap, ◌∙◌, inl, inr, arith, Some, None}
use Rattle.std.specs.List.{AllWithin, insert, list_any}
use Rattle.std.specs.Option.{is_some}
use Rattle.std.specs.Prelude.{filter, find, slice_get}
use Rattle.std.specs.Ordering.{nat_cmp}
use Rattle.std.specs.Cmp.Lexicographic.{slice_cmp}
use Rattle.std.specs.declared.cmp.Ordering.TheVariants.{Less}
use Rattle.std.proofs.lemmas.Bool.{cases_lt}
use Rattle.std.proofs.lemmas.Bool.Decides.{nat_tests}
use Rattle.std.proofs.lemmas.Option.{slice_get-get_or}
use Rattle.rhythm_base.specs.declared.note.Note.{Note}
use Rattle.edit_laws.specs.Edits.{has_note, is_note, without_note}
use Rattle.rhythm_base.specs.Lists.{AreInOrder, earlier}
use Rattle.rhythm_base.specs.Performance.{place_of_note}
use Rattle.performance_edit.specs.OnlyPlaces.{IsOnlyPlace}
use Rattle.performance_edit.proofs.Searches.{is_some-find, list_any-filter}

module _ {X : Type 0} (p : X → Bool) where
  -- nowhere
  pub find-none : (xs : List X) → IsOnlyPlace p xs None → find p xs ≡ None
  find-none [] none = refl
  find-none (x ∷ xs) none =
      let no : p x ≡ false = none 0 x (omega arith) (omega arith) in
      rw no (find-none xs (λ k d l h. none (suc k) d (omega arith) (omega arith)))

  pub filter-none : (xs : List X) → IsOnlyPlace p xs None → filter (λ x. not (p x)) xs ≡ xs
  filter-none [] none = refl
  filter-none (x ∷ xs) none =
      let no : p x ≡ false = none 0 x (omega arith) (omega arith) in
      rw no (ap (λ l. x ∷ l) (filter-none xs (λ k d l h. none (suc k) d (omega arith) (omega arith))))

  -- at one place
  next : (x : X) (xs : List X) (i : ℕ) → IsOnlyPlace p (x ∷ xs) (Some (suc i)) → IsOnlyPlace p xs (Some i)
  next x xs i only = (
    let lt = only.0 in omega (arith, lt),
    λ k d l h. only.1 (suc k) d (omega arith) (omega (arith, h)),
    λ k d l h. only.2 (suc k) d (omega (arith, l)) (omega (arith, h)),
    λ k d l h. only.3 (suc k) d (omega (arith, l)) (omega (arith, h)),
  )

  pub find-only : (xs : List X) (i : ℕ) → IsOnlyPlace p xs (Some i) → find p xs ≡ slice_get xs i
  find-only [] i only = let lt = only.0 in absurd (omega (arith, lt))
  find-only (x ∷ xs) zero only = let is : p x ≡ true = only.2 0 x (omega arith) (omega arith) in rw is refl
  find-only (x ∷ xs) (suc i) only =
      let no : p x ≡ false = only.1 0 x (omega arith) (omega arith) in
      rw no (find-only xs i (next x xs i only))

  pub filter-only : (xs : List X) (i : ℕ) → IsOnlyPlace p xs (Some i) → filter (λ x. not (p x)) xs ≡ take i xs ++ drop (suc i) xs
  filter-only [] i only = let lt = only.0 in absurd (omega (arith, lt))
  filter-only (x ∷ xs) zero only =
      let is : p x ≡ true = only.2 0 x (omega arith) (omega arith) in
      rw is (filter-none xs (λ k d l h. only.3 (suc k) d (omega arith) (omega arith)))
  filter-only (x ∷ xs) (suc i) only =
      let no : p x ≡ false = only.1 0 x (omega arith) (omega arith) in
      rw no (ap (λ l. x ∷ l) (filter-only xs i (next x xs i only)))

  pub any-none : (xs : List X) → IsOnlyPlace p xs None → list_any p xs ≡ false
  any-none xs none = sym (is_some-find p xs) ∙ ap is_some (find-none xs none)

  pub any-only : (xs : List X) (i : ℕ) → IsOnlyPlace p xs (Some i) → list_any p xs ≡ true
  any-only [] i only = let lt = only.0 in absurd (omega (arith, lt))
  any-only (x ∷ xs) i only =
      sym (is_some-find p (x ∷ xs)) ∙ ap is_some (find-only (x ∷ xs) i only ∙ slice_get-get_or (x ∷ xs) i x only.0)

-- one more between those before a place and the others
pub insert-parts : {X : Type 0} (x : X) (xs : List X) (n : ℕ) → n ≤ length xs → insert xs n x ≡ take n xs ++ (x ∷ drop n xs)
insert-parts x xs zero few = refl
insert-parts x [] (suc n) few = absurd (omega (arith, few))
insert-parts x (y ∷ xs) (suc n) few = ap (λ l. y ∷ l) (insert-parts x xs n (omega (arith, few)))

-- ---- notes

not_earlier : (x y : Note) → earlier (place_of_note y) (place_of_note x) ≡ true → is_note x.channel x.key x.onset y ≡ false
not_earlier x y h = grind (arith, nat_tests, h)

not_later : (x y z : Note) → earlier (place_of_note y) (place_of_note x) ≡ false → slice_cmp nat_cmp (place_of_note y) (place_of_note z) ≡ Less
    → is_note x.channel x.key x.onset z ≡ false
not_later x y z h less = grind (arith, nat_tests, h, less)

-- in a list in order the place of a note is that after all that stand before it, or it has none
module _ (x : Note) (notes : List Note) (n : ℕ) (order : AreInOrder place_of_note notes)
    (front : AllWithin (λ y. earlier (place_of_note y) (place_of_note x) ≡ true) notes 0 n)
    (back : AllWithin (λ y. earlier (place_of_note y) (place_of_note x) ≡ false) notes n (length notes)) where
  abbrev is : Note → Bool
  is = is_note x.channel x.key x.onset

  none_front : AllWithin (λ y. is y ≡ false) notes 0 n
  none_front k d l h = not_earlier x (get_or notes k d) (front k d l h)

  none_after : AllWithin (λ y. is y ≡ false) notes (n + 1) (length notes)
  none_after k d l h =
      not_later x (get_or notes n d) (get_or notes k d) (back n d (omega arith) (omega (arith, l, h))) (order n k d (omega (arith, l)) h)

  pub only_there : n < length notes → ((d : Note) → is (get_or notes n d) ≡ true) → IsOnlyPlace is notes (Some n)
  only_there lt at = (lt, none_front, (λ k d l h. let here : n ≡ k = omega (arith, l, h) in ap (λ i. is (get_or notes i d)) (sym here) ∙ at d), none_after)

  pub nowhere : ((d : Note) → n < length notes → is (get_or notes n d) ≡ false) → IsOnlyPlace is notes None
  nowhere wrong k d l h = elim (cases_lt k n) [
    | inl lt ↦ none_front k d (omega arith) lt
    | inr le ↦ elim (cases_lt n k) [
      | inl lt ↦ none_after k d (omega (arith, lt)) h
      | inr ge ↦ let here : n ≡ k = omega (arith, le, ge) in ap (λ i. is (get_or notes i d)) (sym here) ∙ wrong d (omega (arith, here, h))
    ]
  ]

-- ---- a note besides another

module _ (channel key onset to : ℕ) where
  abbrev is_other : Note → Bool
  is_other n = is_note channel key to n && not (is_note channel key onset n)

  none_besides : (notes : List Note) → to ≡ onset → list_any is_other notes ≡ false
  none_besides [] same = refl
  none_besides (n ∷ notes) same =
      let no : is_other n ≡ false = grind (arith, nat_tests, same) in
      rw no (none_besides notes same)

  any_besides : (notes : List Note) → (to ≡ onset → ⊥) → list_any is_other notes ≡ has_note notes channel key to
  any_besides [] apart = refl
  any_besides (n ∷ notes) apart =
      let one : is_other n ≡ is_note channel key to n = besides n apart in
      rw one (ap (λ b. is_note channel key to n || b) (any_besides notes apart))
    where
      besides : (n : Note) → (to ≡ onset → ⊥) → is_other n ≡ is_note channel key to n
      besides n apart = grind (arith, nat_tests, apart)

  pub no_other : (notes : List Note) → to ≡ onset → has_note (without_note channel key onset notes) channel key to ≡ false
  no_other notes same = sym (list_any-filter (is_note channel key to) (λ n. not (is_note channel key onset n)) notes) ∙ none_besides notes same

  pub any_other : (notes : List Note) → (to ≡ onset → ⊥) → has_note (without_note channel key onset notes) channel key to ≡ has_note notes channel key to
  any_other notes apart = sym (list_any-filter (is_note channel key to) (λ n. not (is_note channel key onset n)) notes) ∙ any_besides notes apart
