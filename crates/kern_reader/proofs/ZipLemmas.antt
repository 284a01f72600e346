-- A loop that changes each element of a list by the one beside it in another list.
use Rattle.std.proofs.Common.{◌≡◌, ℕ, zero, suc, ◌+◌, ◌<◌, List, [], ◌∷◌, ◌++◌, take, drop, length, map, set, get_or, refl, ap, ◌∙◌, arith, add-one}
use Rattle.std.specs.List.{zip}

-- the list of which so many elements from the front on are changed
abbrev pub zipped : {T X : Type 0} → (T → X → X) → List T → List X → ℕ → List X
zipped f ts xs i = map (λ p. f p.0 p.1) (zip (take i ts) (take i xs)) ++ drop i xs

-- the others are as they were
pub zipped_kept : {T X : Type 0} (f : T → X → X) (ts : List T) (xs : List X) (i : ℕ) (d : X) → i < length ts → i < length xs → get_or (zipped f ts xs i) i d ≡ get_or xs i d
zipped_kept f [] xs i d h k = absurd (omega (arith, h))
zipped_kept f (t ∷ ts) [] i d h k = absurd (omega (arith, k))
zipped_kept f (t ∷ ts) (x ∷ xs) zero d h k = refl
zipped_kept f (t ∷ ts) (x ∷ xs) (suc i) d h k = zipped_kept f ts xs i d (omega (arith, h)) (omega (arith, k))

next : {T X : Type 0} (f : T → X → X) (ts : List T) (xs : List X) (i : ℕ) (e : T) (d : X) → i < length ts → i < length xs
    → set (zipped f ts xs i) i (f (get_or ts i e) (get_or xs i d)) ≡ zipped f ts xs (suc i)
next f [] xs i e d h k = absurd (omega (arith, h))
next f (t ∷ ts) [] i e d h k = absurd (omega (arith, k))
next f (t ∷ ts) (x ∷ xs) zero e d h k = refl
next f (t ∷ ts) (x ∷ xs) (suc i) e d h k = ap (λ ys. f t x ∷ ys) (next f ts xs i e d (omega (arith, h)) (omega (arith, k)))

-- one more is changed
pub zipped_more : {T X : Type 0} (f : T → X → X) (ts : List T) (xs ys : List X) (i : ℕ) (t : T) (x : X) → i < length ts → i < length xs
    → ys ≡ zipped f ts xs i → t ≡ get_or ts i t → x ≡ get_or ys i x → set ys i (f t x) ≡ zipped f ts xs (i + 1)
zipped_more f ts xs ys i t x h k is there here =
    let same : x ≡ get_or xs i x = here ∙ ap (λ l. get_or l i x) is ∙ zipped_kept f ts xs i x h k in
    ap (λ l. set l i (f t x)) is ∙ ap (λ y. set (zipped f ts xs i) i (f t y)) same ∙ ap (λ s. set (zipped f ts xs i) i (f s (get_or xs i x))) there
    ∙ next f ts xs i t x h k ∙ rw add-one refl

-- all are
pub zipped_all : {T X : Type 0} (f : T → X → X) (ts : List T) (xs : List X) → length ts ≡ length xs → zipped f ts xs (length xs) ≡ map (λ p. f p.0 p.1) (zip ts xs)
zipped_all f [] [] same = refl
zipped_all f [] (x ∷ xs) same = absurd (omega (arith, same))
zipped_all f (t ∷ ts) [] same = absurd (omega (arith, same))
zipped_all f (t ∷ ts) (x ∷ xs) same = ap (λ ys. f t x ∷ ys) (zipped_all f ts xs (omega (arith, same)))
