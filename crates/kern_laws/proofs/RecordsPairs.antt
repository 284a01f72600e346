-- Two lists of which each goes with each.
use Rattle.std.proofs.Common.{ℕ, zero, suc, ◌<◌, List, [], ◌∷◌, length, get_or, map, refl, sym, subst, arith}
use Rattle.std.specs.Prelude.{Contains}
use Rattle.std.specs.List.{flat_map}
use Rattle.rhythm_base.specs.Lists.{Each}
use Rattle.rhythm_base.proofs.PairedLists.{each_append}

pub each_map : {X Y U V : Type 0} (R : X → Y → Type 0) (Q : U → V → Type 0) (f : X → U) (g : Y → V) (xs : List X) (ys : List Y)
    → ((x : X) (y : Y) → R x y → Q (f x) (g y))
    → Each R xs ys → Each Q (map f xs) (map g ys)
each_map R Q f g [] [] each h = refl
each_map R Q f g [] (y ∷ ys) each h = cc
each_map R Q f g (x ∷ xs) [] each h = absurd h
each_map R Q f g (x ∷ xs) (y ∷ ys) each h = (each x y h.0, each_map R Q f g xs ys each h.1)

pub each_flat : {X U V : Type 0} (Q : U → V → Type 0) (f : X → List U) (g : X → List V) (xs : List X) → ((x : X) → Each Q (f x) (g x))
    → Each Q (flat_map f xs) (flat_map g xs)
each_flat Q f g [] each = refl
each_flat Q f g (x ∷ xs) each = each_append Q (f x) (flat_map f xs) (g x) (flat_map g xs) (each x) (each_flat Q f g xs each)

pub each_turned : {X Y : Type 0} (R : X → Y → Type 0) (xs : List X) (ys : List Y) → Each R xs ys → Each (λ y x. R x y) ys xs
each_turned R [] [] h = refl
each_turned R [] (y ∷ ys) h = cc
each_turned R (x ∷ xs) [] h = absurd h
each_turned R (x ∷ xs) (y ∷ ys) h = (h.0, each_turned R xs ys h.1)

-- those at one place
pub each_at : {X Y : Type 0} (R : X → Y → Type 0) (xs : List X) (ys : List Y) (i : ℕ) (d : X) (e : Y) → Each R xs ys → i < length xs
    → R (get_or xs i d) (get_or ys i e)
each_at R [] ys i d e h lt = absurd (omega (arith, lt))
each_at R (x ∷ xs) [] i d e h lt = absurd h
each_at R (x ∷ xs) (y ∷ ys) zero d e h lt = h.0
each_at R (x ∷ xs) (y ∷ ys) (suc i) d e h lt = each_at R xs ys i d e h.1 (omega (arith, lt))

-- and past the end, where what stands for those that are not there goes together
pub each_slot : {X Y : Type 0} (R : X → Y → Type 0) (xs : List X) (ys : List Y) (i : ℕ) (d : X) (e : Y) → R d e → Each R xs ys
    → R (get_or xs i d) (get_or ys i e)
each_slot R [] [] i d e none h = none
each_slot R [] (y ∷ ys) i d e none h = cc
each_slot R (x ∷ xs) [] i d e none h = absurd h
each_slot R (x ∷ xs) (y ∷ ys) zero d e none h = h.0
each_slot R (x ∷ xs) (y ∷ ys) (suc i) d e none h = each_slot R xs ys i d e none h.1

-- a member of one list has its partner in the other
pub partner : {X Y : Type 0} (R : X → Y → Type 0) (P : X → Type 0) (Q : Y → Type 0) (xs : List X) (ys : List Y)
    → ((x : X) (y : Y) → R x y → P x → Q y)
    → Each R xs ys → (x : X) × Contains xs x × P x → (y : Y) × Contains ys y × Q y
partner R P Q [] ys through h (x, (k, lt, e), p) = absurd (omega (arith, lt))
partner R P Q (z ∷ xs) [] through h c = absurd h
partner R P Q (z ∷ xs) (y ∷ ys) through h (x, (zero, lt, e), p) = (y, (zero, omega arith, refl), through z y h.0 (subst P (sym e) p))
partner {X} {Y} R P Q (z ∷ xs) (y ∷ ys) through h (x, (suc k, lt, e), p) = deeper (partner R P Q xs ys through h.1 (x, (k, omega (arith, lt), e), p))
  where
    deeper : (w : Y) × Contains ys w × Q w → (w : Y) × Contains (y ∷ ys) w × Q w
    deeper (w, (j, less, is), q) = (w, (suc j, omega (arith, less), is), q)
