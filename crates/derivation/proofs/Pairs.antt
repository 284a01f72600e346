-- Two lists of which each goes with each.
use Rattle.std.proofs.Common.{◌≡◌, ℕ, ◌+◌, ◌<◌, List, [], ◌∷◌, ◌++◌, length, get_or, take, refl, sym, ap, ◌∙◌, subst, arith}
use Rattle.std.specs.Prelude.{All}
use Rattle.std.proofs.lemmas.List.{take_more}
use Rattle.std.proofs.lemmas.List.Elements.{All-head, All-tail}
use Rattle.rhythm_base.specs.Lists.{Each}
use Rattle.rhythm_base.proofs.PairedLists.{each_push}

-- one more of each
pub each_more : {X Y : Type 0} (R : X → Y → Type 0) (xs : List X) (ys : List Y) (i : ℕ) (d : X) (y : Y) → i < length xs → Each R (take i xs) ys → R (get_or xs i d) y → Each R (take (i + 1) xs) (ys ++ y ∷ [])
each_more R xs ys i d y lt h r = subst (λ zs. Each R zs (ys ++ y ∷ [])) (sym (take_more xs i d lt)) (each_push R (take i xs) ys (get_or xs i d) y h r)

pub each_length : {X Y : Type 0} (R : X → Y → Type 0) (xs : List X) (ys : List Y) → Each R xs ys → length xs ≡ length ys
each_length R [] ys h = ap length (sym h)
each_length R (x ∷ xs) [] h = absurd h
each_length R (x ∷ xs) (y ∷ ys) h = let e = each_length R xs ys h.1 in omega (arith, e)

-- what follows for each pair
pub each_weaker : {X Y : Type 0} (R S : X → Y → Type 0) (P : X → Type 0) (xs : List X) (ys : List Y) → ((x : X) (y : Y) → P x → R x y → S x y) → All P xs → Each R xs ys → Each S xs ys
each_weaker R S P [] ys f all h = h
each_weaker R S P (x ∷ xs) [] f all h = h
each_weaker R S P (x ∷ xs) (y ∷ ys) f all h = (f x y (All-head P x xs all) h.0, each_weaker R S P xs ys f (All-tail P x xs all) h.1)

-- each has its partner
pub each_exist : {X Y : Type 0} (R : X → Y → Type 0) (P : X → Type 0) (xs : List X) → ((x : X) → P x → (y : Y) × R x y) → All P xs → (ys : List Y) × Each R xs ys
each_exist R P [] f all = ([], refl)
each_exist R P (x ∷ xs) f all =
    let one = f x (All-head P x xs all) in
    let rest = each_exist R P xs f (All-tail P x xs all) in
    (one.0 ∷ rest.0, (one.1, rest.1))

-- and only one
pub each_one : {X Y : Type 0} (R : X → Y → Type 0) (P : X → Type 0) (xs : List X) (ys zs : List Y) → ((x : X) (y z : Y) → P x → R x y → R x z → y ≡ z) → All P xs → Each R xs ys → Each R xs zs → ys ≡ zs
each_one R P [] ys zs f all h k = h ∙ sym k
each_one R P (x ∷ xs) [] zs f all h k = absurd h
each_one R P (x ∷ xs) (y ∷ ys) [] f all h k = absurd k
each_one R P (x ∷ xs) (y ∷ ys) (z ∷ zs) f all h k = λ i. f x y z (All-head P x xs all) h.0 k.0 i ∷ each_one R P xs ys zs f (All-tail P x xs all) h.1 k.1 i
