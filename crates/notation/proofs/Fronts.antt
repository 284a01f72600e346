-- A list by its first element and those after it.
use Rattle.std.proofs.Common.{◌≡◌, ◌≤◌, List, [], ◌∷◌, ◌++◌, length, get_or, drop, sym, subst, arith}
use Rattle.std.specs.Prelude.{All}
use Rattle.std.proofs.lemmas.List.Elements.{All-cons, All-head, All-nil, All-tail}

pub first_and_more : {X : Type 0} (xs more : List X) (x : X) → 1 ≤ length xs → more ≡ drop 1 xs → x ≡ get_or xs 0 x → xs ≡ x ∷ more
first_and_more [] more x some rest is = absurd (omega (arith, some))
first_and_more (y ∷ ys) more x some rest is = λ i. sym is i ∷ sym rest i

-- what holds of each holds of the first and of those after it
pub first_holds : {X : Type 0} (P : X → Type 0) (xs more : List X) (x : X) → xs ≡ x ∷ more → All P xs → P x
first_holds P xs more x split all = All-head P x more (subst (All P) split all)

pub more_hold : {X : Type 0} (P : X → Type 0) (xs more : List X) (x : X) → xs ≡ x ∷ more → All P xs → All P more
more_hold P xs more x split all = All-tail P x more (subst (All P) split all)

pub all_parts : {X : Type 0} (P : X → Type 0) (xs ys : List X) → All P (xs ++ ys) → All P xs × All P ys
all_parts P [] ys all = (All-nil P, all)
all_parts P (x ∷ xs) ys all =
    let rest = all_parts P xs ys (All-tail P x (xs ++ ys) all) in
    (All-cons P x xs (All-head P x (xs ++ ys) all) rest.0, rest.1)

-- the same by the first element that the list gives
pub first_at : {X : Type 0} (xs more : List X) (d : X) → 1 ≤ length xs → more ≡ drop 1 xs → xs ≡ get_or xs 0 d ∷ more
first_at [] more d some rest = absurd (omega (arith, some))
first_at (y ∷ ys) more d some rest = λ i. y ∷ sym rest i
