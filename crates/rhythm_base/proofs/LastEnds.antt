-- The last of the ends of two lists.
use Rattle.std.proofs.Common.{◌≡◌, ℕ, List, [], ◌∷◌, ◌++◌, refl}
use Rattle.rhythm_base.specs.Lists.{last_end}

pub last_end-append : (e : ℕ) (xs ys : List ℕ) → last_end e (xs ++ ys) ≡ last_end (last_end e xs) ys
last_end-append e [] ys = refl
last_end-append e (x ∷ xs) ys = last_end-append x xs ys
