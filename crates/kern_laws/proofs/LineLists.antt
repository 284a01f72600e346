-- Lists side by side, and what holds of one of a list.
use Rattle.std.proofs.Common.{◌≡◌, ℕ, zero, suc, ◌≤◌, List, [], ◌∷◌, length, map, refl, ap, ap₂, ◌⊎◌, inl, inr, arith, min}
use Rattle.std.specs.Prelude.{Contains, fold}
use Rattle.std.specs.List.{zip}
use Rattle.rhythm_base.specs.Lists.{Each}
use Rattle.rhythm_base.proofs.PairedLists.{each_length}

-- it holds of one
abbrev pub HasOne : {X : Type 0} → (X → Type 0) → List X → Type 0
HasOne P [] = ⊥
HasOne P (x ∷ xs) = P x ⊎ HasOne P xs

pub one_of : {X : Type 0} (P : X → Type 0) (x : X) (xs : List X) → Contains xs x → P x → HasOne P xs
one_of {X} P x [] (k, lt, e) h = absurd (omega (arith, lt))
one_of {X} P x (y ∷ ys) (zero, lt, e) h = inl (subst_one y e)
  where
    subst_one : (y : X) → y ≡ x → P y
    subst_one y e = rw e h
one_of {X} P x (y ∷ ys) (suc k, lt, e) h = inr (one_of P x ys (k, omega (arith, lt), e) h)

pub one_weaker : {X Y : Type 0} (R : X → Y → Type 0) (P : X → Type 0) (Q : Y → Type 0) (xs : List X) (ys : List Y)
    → ((x : X) (y : Y) → R x y → P x → Q y) → Each R xs ys → HasOne P xs → HasOne Q ys
one_weaker R P Q [] ys weaker each h = absurd h
one_weaker R P Q (x ∷ xs) [] weaker each h = absurd each
one_weaker R P Q (x ∷ xs) (y ∷ ys) weaker (own, rest) (inl h) = inl (weaker x y own h)
one_weaker R P Q (x ∷ xs) (y ∷ ys) weaker (own, rest) (inr h) = inr (one_weaker R P Q xs ys weaker rest h)

pub one_mapped : {X Y : Type 0} (f : X → Y) (P : Y → Type 0) (xs : List X) → HasOne P (map f xs) → HasOne (λ x. P (f x)) xs
one_mapped f P [] h = absurd h
one_mapped f P (x ∷ xs) (inl h) = inl h
one_mapped f P (x ∷ xs) (inr h) = inr (one_mapped f P xs h)

-- it holds of all
abbrev pub Every : {X : Type 0} → (X → Type 0) → List X → Type 0
Every P [] = Unit {0}
Every P (x ∷ xs) = P x × Every P xs

-- ---- side by side

pub each_weaker : {X Y : Type 0} (R S : X → Y → Type 0) (xs : List X) (ys : List Y) → ((x : X) (y : Y) → R x y → S x y) → Each R xs ys → Each S xs ys
each_weaker R S [] ys weaker each = each
each_weaker R S (x ∷ xs) [] weaker each = absurd each
each_weaker R S (x ∷ xs) (y ∷ ys) weaker (own, rest) = (weaker x y own, each_weaker R S xs ys weaker rest)

pub each_second : {X Y : Type 0} (R : X → Y → Type 0) (P : Y → Type 0) (xs : List X) (ys : List Y) → ((x : X) (y : Y) → R x y → P y) → Each R xs ys → Every P ys
each_second R P [] [] weaker each = tt
each_second R P [] (y ∷ ys) weaker each = absurd (no (ap length each))
  where
    no : suc (length ys) ≡ 0 → ⊥
    no h = omega (arith, h)
each_second R P (x ∷ xs) [] weaker each = absurd each
each_second R P (x ∷ xs) (y ∷ ys) weaker (own, rest) = (weaker x y own, each_second R P xs ys weaker rest)

pub each_first : {X Y Z : Type 0} (R : X → Y → Type 0) (S : Z → Y → Type 0) (f : X → Z) (xs : List X) (ys : List Y) → ((x : X) (y : Y) → R x y → S (f x) y) → Each R xs ys → Each S (map f xs) ys
each_first R S f [] ys weaker each = each
each_first R S f (x ∷ xs) [] weaker each = absurd each
each_first R S f (x ∷ xs) (y ∷ ys) weaker (own, rest) = (weaker x y own, each_first R S f xs ys weaker rest)

pub each_mapped : {X Y Z : Type 0} (R : X → Y → Type 0) (S : X → Z → Type 0) (f : Y → Z) (xs : List X) (ys : List Y) → ((x : X) (y : Y) → R x y → S x (f y)) → Each R xs ys → Each S xs (map f ys)
each_mapped R S f [] ys weaker each = ap (map f) each
each_mapped R S f (x ∷ xs) [] weaker each = absurd each
each_mapped R S f (x ∷ xs) (y ∷ ys) weaker (own, rest) = (weaker x y own, each_mapped R S f xs ys weaker rest)

-- one more on each
pub each_zipped : {X Y Z : Type 0} (R : X → Y → Type 0) (S : X → Y → Type 0) (f : X → Z) (g : Z × Y → Y) (xs : List X) (ys : List Y)
    → ((x : X) (y : Y) → R x y → S x (g (f x, y))) → Each R xs ys → Each S xs (map g (zip (map f xs) ys))
each_zipped R S f g [] ys weaker each = refl
each_zipped R S f g (x ∷ xs) [] weaker each = absurd each
each_zipped R S f g (x ∷ xs) (y ∷ ys) weaker (own, rest) = (weaker x y own, each_zipped R S f g xs ys weaker rest)

pub mapped_twice : {X Y Z : Type 0} (f : X → Y) (g : Y → Z) (xs : List X) → map g (map f xs) ≡ map (λ x. g (f x)) xs
mapped_twice f g [] = refl
mapped_twice f g (x ∷ xs) = ap (λ ys. g (f x) ∷ ys) (mapped_twice f g xs)

pub mapped_same : {X Y : Type 0} (f g : X → Y) (xs : List X) → ((x : X) → f x ≡ g x) → map f xs ≡ map g xs
mapped_same f g [] same = refl
mapped_same f g (x ∷ xs) same = ap₂ ◌∷◌ (same x) (mapped_same f g xs same)

-- ---- the least of numbers

pub least_from : (q a : ℕ) (xs : List ℕ) → q ≤ a → Every (λ x. q ≤ x) xs → (a ≡ q) ⊎ HasOne (λ x. x ≡ q) xs → fold min a xs ≡ q
least_from q a [] low all (inl e) = e
least_from q a [] low all (inr h) = absurd h
least_from q a (x ∷ xs) low (here, rest) (inl e) = least_from q (min a x) xs (omega (arith, low, here)) rest (inl (omega (arith, e, here)))
least_from q a (x ∷ xs) low (here, rest) (inr (inl e)) = least_from q (min a x) xs (omega (arith, low, here)) rest (inl (omega (arith, e, low)))
least_from q a (x ∷ xs) low (here, rest) (inr (inr h)) = least_from q (min a x) xs (omega (arith, low, here)) rest (inr h)
