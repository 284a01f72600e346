-- The one place of a list at which a test passes.
use Rattle.std.specs.Prelude.{◌≡◌, ℕ, ◌+◌, ◌<◌, ◌≤◌, Bool, true, false, List, length, min, Option, Some, None}
use Rattle.std.specs.List.{AllWithin}

-- the test passes at this place alone; or nowhere
abbrev pub IsOnlyPlace : {X : Type 0} → (X → Bool) → List X → Option ℕ → Type 0
IsOnlyPlace p xs None = AllWithin (λ x. p x ≡ false) xs 0 (length xs)
IsOnlyPlace p xs (Some i) =
    (i < length xs)
    × AllWithin (λ x. p x ≡ false) xs 0 i
    × AllWithin (λ x. p x ≡ true) xs i (i + 1)
    × AllWithin (λ x. p x ≡ false) xs (i + 1) (length xs)

-- the elements before this place stand before another one, and those from it on do not
pub record IsPlaceAmong {X : Type 0} (before : X → Bool) (xs : List X) (place : ℕ) : Type 0 where
  pub within : place ≤ length xs
  pub front : AllWithin (λ x. before x ≡ true) xs 0 place
  pub back : AllWithin (λ x. before x ≡ false) xs place (length xs)

-- the lesser of two numbers, of those that there are
abbrev pub lesser : Option ℕ → Option ℕ → Option ℕ
lesser None other = other
lesser (Some one) None = Some one
lesser (Some one) (Some other) = Some (min one other)
