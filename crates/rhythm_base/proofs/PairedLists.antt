-- Lists that are related element by element.
use Rattle.std.proofs.Common.{◌≡◌, suc, List, [], ◌∷◌, ◌++◌, length, refl, sym, ap, subst}
use Rattle.rhythm_base.specs.Lists.{Each}

pub each_push : {X Y : Type 0} (R : X → Y → Type 0) (xs : List X) (ys : List Y) (x : X) (y : Y) → Each R xs ys → R x y → Each R (xs ++ x ∷ []) (ys ++ y ∷ [])
each_push {X} {Y} R [] ys x y h r = subst (λ (zs : List Y). Each R (x ∷ []) (zs ++ y ∷ [])) (sym h) (r, refl)
each_push R (z ∷ xs) [] x y h r = absurd h
each_push R (z ∷ xs) (w ∷ ys) x y h r = (h.0, each_push R xs ys x y h.1 r)

pub each_append : {X Y : Type 0} (R : X → Y → Type 0) (xs us : List X) (ys vs : List Y) → Each R xs ys → Each R us vs
    → Each R (xs ++ us) (ys ++ vs)
each_append {X} {Y} R [] us ys vs h k = subst (λ (zs : List Y). Each R us (zs ++ vs)) (sym h) k
each_append R (x ∷ xs) us [] vs h k = absurd h
each_append R (x ∷ xs) us (y ∷ ys) vs h k = (h.0, each_append R xs us ys vs h.1 k)

pub each_length : {X Y : Type 0} (R : X → Y → Type 0) (xs : List X) (ys : List Y) → Each R xs ys → length ys ≡ length xs
each_length R [] ys h = ap length h
each_length R (x ∷ xs) [] h = absurd h
each_length R (x ∷ xs) (y ∷ ys) h = ap suc (each_length R xs ys h.1)
