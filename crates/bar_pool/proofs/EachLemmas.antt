-- Lists of which each member is that of its place, one member longer.
use Rattle.std.proofs.Common.{ℕ, suc, ◌+◌, ◌≡◌, arith, ◌<◌, List, [], ◌∷◌, ◌++◌, length, get_or, take, refl, sym, subst}
use Rattle.std.proofs.lemmas.List.{take_more}
use Rattle.std.specs.Prelude.{Some, slice_get}
use Rattle.rhythm_base.specs.Lists.{Each}

pub Each-push : {X Y : Type 0} (Of : X → Y → Type 0) (xs : List X) (ys : List Y) (x : X) (y : Y) → Each Of xs ys → Of x y → Each Of (xs ++ x ∷ []) (ys ++ y ∷ [])
Each-push {X} {Y} Of [] ys x y h of = subst (λ zs. Each Of (x ∷ []) (zs ++ y ∷ [])) (sym h) (of, refl)
Each-push Of (x₁ ∷ xs) [] x y h of = absurd h
Each-push Of (x₁ ∷ xs) (y₁ ∷ ys) x y h of = (h.0, Each-push Of xs ys x y h.1 of)

-- in a loop over the list: the member at this place has its own
pub Each-more : {X Y : Type 0} (Of : X → Y → Type 0) (xs : List X) (ys : List Y) (i : ℕ) (d : X) (y : Y) → i < length xs → Each Of (take i xs) ys → Of (get_or xs i d) y
    → Each Of (take (i + 1) xs) (ys ++ y ∷ [])
Each-more Of xs ys i d y lt h of =
    subst (λ zs. Each Of zs (ys ++ y ∷ [])) (sym (take_more xs i d lt)) (Each-push Of (take i xs) ys (get_or xs i d) y h of)

-- by the members at the places
pub Each-from : {X Y : Type 0} (Of : X → Y → Type 0) (xs : List X) (ys : List Y) → length ys ≡ length xs
    → ((k : ℕ) (x : X) (y : Y) → slice_get xs k ≡ Some x → slice_get ys k ≡ Some y → Of x y) → Each Of xs ys
Each-from Of [] [] e h = refl
Each-from Of [] (y ∷ ys) e h = absurd (omega arith)
Each-from Of (x ∷ xs) [] e h = absurd (omega arith)
Each-from Of (x ∷ xs) (y ∷ ys) e h = (h 0 x y refl refl, Each-from Of xs ys (omega arith) (λ k v w a b. h (suc k) v w a b))
