-- Lists in an order, and their last and greatest members.
use Rattle.std.specs.Prelude.{◌≡◌, ℕ, Bool, List, AllPairs, length, ◌-◌, slice_get, Option, [], ◌∷◌, ◌+◌, not, ◌++◌, filter, fold, min, max}
use Rattle.std.specs.Ordering.{nat_cmp, is_lt}
use Rattle.std.specs.Cmp.Lexicographic.{slice_cmp}
use Rattle.std.specs.declared.cmp.Ordering.TheVariants.{Less}

-- each is before all that follow, so no two have one place
abbrev pub AreInOrder : {X : Type 0} → (X → List ℕ) → List X → Type 0
AreInOrder place xs = AllPairs (λ x y. slice_cmp nat_cmp (place x) (place y) ≡ Less) xs

-- of two places the first is before the second
abbrev pub earlier : List ℕ → List ℕ → Bool
earlier a b = is_lt (slice_cmp nat_cmp a b)

-- the last of a list
abbrev pub last_of : {X : Type 0} → List X → Option X
last_of xs = slice_get xs (length xs - 1)

-- the last of the ends, or e where there is none
abbrev pub last_end : ℕ → List ℕ → ℕ
last_end e [] = e
last_end e (d ∷ ds) = last_end d ds

-- as many as there are, each that of its place
abbrev pub Each : {X Y : Type 0} → (X → Y → Type 0) → List X → List Y → Type 0
Each Of [] ys = ys ≡ []
Each Of (x ∷ xs) [] = ⊥
Each Of (x ∷ xs) (y ∷ ys) = Of x y × Each Of xs ys

-- how far apart two numbers are
abbrev pub gap : ℕ → ℕ → ℕ
gap a b = (a - b) + (b - a)

abbrev pub least_of : List ℕ → ℕ
least_of [] = 0
least_of (t ∷ ts) = fold min t ts

-- the list with one more, in its order: those before it, it, and the others
abbrev pub list_with : {X : Type 0} → (X → List ℕ) → X → List X → List X
list_with place x xs =
    filter (λ y. is_lt (slice_cmp nat_cmp (place y) (place x))) xs
    ++ (x ∷ filter (λ y. not (is_lt (slice_cmp nat_cmp (place y) (place x)))) xs)

-- the greatest of the numbers, 0 without one
abbrev pub greatest : List ℕ → ℕ
greatest numbers = fold (λ n m. max n m) 0 numbers
