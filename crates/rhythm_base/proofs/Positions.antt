-- The first place of a list at which a test holds.
use Rattle.std.proofs.Common.{◌≡◌, ℕ, ◌+◌, ◌<◌, ◌≤◌, ◌||◌, Bool, true, false, not, cond, nat_lt, Some, None, List, [], ◌∷◌, length, map, position, arith, refl, ap, ◌∙◌}
use Rattle.std.proofs.lemmas.Bool.{ltb-false, ltb-true}
use Rattle.std.proofs.lemmas.List.Splits.{slice_split-cons_no}
use Rattle.std.specs.List.{list_any, onto_first, position_or_len, slice_split}

-- what `position` says of `position_or_len`
pub position-found : {X : Type 0} (p : X → Bool) (xs : List X) (i : ℕ) → position p xs ≡ Some i → position_or_len p xs ≡ i
position-found p xs i e = at (nat_lt (position_or_len p xs) (length xs)) e
  where
    at : (b : Bool) → cond b (Some (position_or_len p xs)) None ≡ Some i → position_or_len p xs ≡ i
    at true e = cc
    at false e = cc

pub position-within : {X : Type 0} (p : X → Bool) (xs : List X) (i : ℕ) → position p xs ≡ Some i → i < length xs
position-within p xs i e = at (nat_lt (position_or_len p xs) (length xs)) refl e
  where
    at : (b : Bool) → nat_lt (position_or_len p xs) (length xs) ≡ b → cond b (Some (position_or_len p xs)) None ≡ Some i → i < length xs
    at true t e = let within = ltb-true _ _ t in let same : position_or_len p xs ≡ i = cc in omega arith
    at false t e = cc

pub position-missing : {X : Type 0} (p : X → Bool) (xs : List X) → position p xs ≡ None → length xs ≤ position_or_len p xs
position-missing p xs e = at (nat_lt (position_or_len p xs) (length xs)) refl e
  where
    at : (b : Bool) → nat_lt (position_or_len p xs) (length xs) ≡ b → cond b (Some (position_or_len p xs)) None ≡ None
        → length xs ≤ position_or_len p xs
    at true t e = cc
    at false t e = ltb-false _ _ t

-- where no element passes the test there is one piece
pub slice_split-missing : {X : Type 0} (p : X → Bool) (xs : List X) → length xs ≤ position_or_len p xs → slice_split p xs ≡ xs ∷ []
slice_split-missing p [] none = refl
slice_split-missing {X} p (x ∷ xs) none = at (p x) refl none (λ less. slice_split-missing p xs less)
  where
    at : (b : Bool) → p x ≡ b → length (x ∷ xs) ≤ cond (not b) (1 + position_or_len p xs) 0
        → (length xs ≤ position_or_len p xs → slice_split p xs ≡ xs ∷ []) → slice_split p (x ∷ xs) ≡ (x ∷ xs) ∷ []
    at true e less rest = absurd (omega arith)
    at false e less rest = slice_split-cons_no p x xs e ∙ ap (onto_first x) (rest (omega arith))

-- the first place in the images
pub position_or_len-map : {X Y : Type 0} (p : Y → Bool) (g : X → Y) (xs : List X) → position_or_len p (map g xs) ≡ position_or_len (λ x. p (g x)) xs
position_or_len-map p g [] = refl
position_or_len-map p g (x ∷ xs) = ap (λ n. cond (not (p (g x))) (1 + n) 0) (position_or_len-map p g xs)

-- a test of the images
pub list_any-map : {X Y : Type 0} (p : Y → Bool) (f : X → Y) (xs : List X) → list_any p (map f xs) ≡ list_any (λ x. p (f x)) xs
list_any-map p f [] = refl
list_any-map p f (x ∷ xs) = ap (λ b. p (f x) || b) (list_any-map p f xs)
