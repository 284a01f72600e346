-- Members of lists, and sets whose members are those of a list.
use Rattle.std.proofs.Common.{◌≡◌, ℕ, zero, suc, ◌<◌, ◌⊎◌, inl, inr, List, [], ◌∷◌, ◌++◌, map, length, refl, sym, subst, arith}
use Rattle.std.specs.Prelude.{All, Contains, Some, slice_get}
use Rattle.std.proofs.lemmas.Bool.{cases_eq}
use Rattle.std.proofs.lemmas.List.Elements.{All-nil, Contains-append_left, Contains-append_right}
use Rattle.rhythm_base.proofs.FirstLists.{contains_split}
use Rattle.rhythm_base.proofs.OrderedLists.{all_cons}
use Rattle.answer_laws.proofs.Decisions.{Decided}
use Rattle.kern_writer.proofs.Merging.{contains_map}

module _ {X : Type 0} where
  pub member_first : (x : X) (xs : List X) → Contains (x ∷ xs) x
  member_first x xs = (zero, omega arith, refl)

  pub member_later : (x y : X) (xs : List X) → Contains xs x → Contains (y ∷ xs) x
  member_later x y xs c = (suc c.0, omega (arith, c.1), c.2)

  pub no_member : (x : X) → Contains [] x → ⊥
  no_member x c = absurd (omega (arith, c.1))

  -- what stands at a place of a list
  pub there : (xs : List X) (i : ℕ) → i < length xs → (x : X) × (slice_get xs i ≡ Some x)
  there [] i less = absurd (omega (arith, less))
  there (x ∷ xs) zero less = (x, refl)
  there (x ∷ xs) (suc i) less = there xs i (omega (arith, less))

-- each of one list with each of another
abbrev pub products : {X Y Z : Type 0} → (X → Y → Z) → List X → List Y → List Z
products f [] ys = []
products f (x ∷ xs) ys = map (f x) ys ++ products f xs ys

pub member_products : {X Y Z : Type 0} (f : X → Y → Z) (xs : List X) (ys : List Y) (x : X) (y : Y) → Contains xs x → Contains ys y → Contains (products f xs ys) (f x y)
member_products f [] ys x y c d = absurd (no_member x c)
member_products f (z ∷ xs) ys x y c d = elim (contains_split x z xs c) [
  | inl same ↦ Contains-append_left (map (f z) ys) (products f xs ys) (f x y) (subst (λ w. Contains (map (f z) ys) (f w y)) same (contains_map (f z) ys y d))
  | inr later ↦ Contains-append_right (map (f z) ys) (products f xs ys) (f x y) (member_products f xs ys x y later d)
]

-- a list that has each member of a set
abbrev pub IsWithinList : {X : Type 0} → (X → Type 0) → Type 0
IsWithinList {X} S = (xs : List X) × ((x : X) → S x → Contains xs x)

-- the numbers below another one
pub numbers_below : (n : ℕ) → IsWithinList (λ i. i < n)
numbers_below zero = ([], λ i less. absurd (omega (arith, less)))
numbers_below (suc n) =
    let rest = numbers_below n in (
      n ∷ rest.0,
      λ i less. elim (cases_eq n i) [
        | inl same ↦ subst (Contains (n ∷ rest.0)) same (member_first n rest.0)
        | inr other ↦ member_later i n rest.0 (rest.1 i (omega (arith, less, other)))
      ],
    )

pub decided_member : {X : Type 0} → ((x y : X) → Decided (x ≡ y)) → (x : X) (xs : List X) → Decided (Contains xs x)
decided_member same x [] = inr (no_member x)
decided_member same x (y ∷ xs) = go (same y x) (decided_member same x xs)
  where
    go : Decided (y ≡ x) → Decided (Contains xs x) → Decided (Contains (y ∷ xs) x)
    go (inl own) rest = inl (subst (Contains (y ∷ xs)) own (member_first y xs))
    go (inr other) (inl later) = inl (member_later x y xs later)
    go (inr other) (inr never) = inr (λ c. elim (contains_split x y xs c) [ inl own ↦ other own | inr later ↦ never later ])

-- a list of the members of a set, and of each of them
pub record IsFinite {X : Type 0} (S : X → Type 0) : Type 0 where
  pub list : List X
  pub are : All S list
  pub each : (x : X) → S x → Contains list x

module _ {X : Type 0} (S : X → Type 0) where
  abbrev KeptOf : List X → Type 0
  KeptOf xs = (ys : List X) × All S ys × ((x : X) → Contains xs x → S x → Contains ys x)

  kept : (xs : List X) → ((x : X) → Contains xs x → Decided (S x)) → KeptOf xs
  kept [] decide = ([], All-nil S, λ x c s. c)
  kept (y ∷ xs) decide = go (decide y (member_first y xs)) (kept xs (λ x c. decide x (member_later x y xs c)))
    where
      go : Decided (S y) → KeptOf xs → KeptOf (y ∷ xs)
      go (inl s) rest = (
        y ∷ rest.0,
        all_cons S y rest.0 s rest.1,
        λ x c k. elim (contains_split x y xs c) [
          | inl same ↦ subst (Contains (y ∷ rest.0)) same (member_first y rest.0)
          | inr later ↦ member_later x y rest.0 (rest.2 x later k)
        ],
      )
      go (inr never) rest = (
        rest.0,
        rest.1,
        λ x c k. elim (contains_split x y xs c) [
          | inl same ↦ absurd (never (subst S (sym same) k))
          | inr later ↦ rest.2 x later k
        ],
      )

  -- of the members of a list those of the set
  pub all_of : (wide : IsWithinList S) → ((x : X) → Contains wide.0 x → Decided (S x)) → IsFinite S
  all_of wide decide =
      let own = kept wide.0 decide in
      record { list = own.0; are = own.1; each = λ x s. own.2 x (wide.1 x s) s }

  -- a set of which a list has each member has a member, or none
  pub some_or_none : IsFinite S → ((x : X) × S x) ⊎ ((x : X) → S x → ⊥)
  some_or_none all = go all.list all.are all.each
    where
      go : (list : List X) → All S list → ((x : X) → S x → Contains list x) → ((x : X) × S x) ⊎ ((x : X) → S x → ⊥)
      go [] are each = inr (λ x s. no_member x (each x s))
      go (x ∷ xs) are each = inl (x, are zero x (omega arith))
