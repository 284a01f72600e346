-- Members of lists, element by element, and lists each of whose elements goes with all later ones.
use Rattle.std.proofs.Common.{◌≡◌, ◌⊎◌, ℕ, zero, suc, ◌<◌, Bool, true, false, List, [], ◌∷◌, ◌++◌, get_or, length, map, refl, sym, ap, ◌∙◌, subst, inl, inr, arith}
use Rattle.std.specs.Prelude.{All, AllPairs, Contains, ⊤, filter, if◌then◌else◌}
use Rattle.std.specs.List.{flat_map}

abbrev pub Among : {X : Type 0} → X → List X → Type 0
Among x [] = ⊥
Among x (y ∷ ys) = (x ≡ y) ⊎ Among x ys

pub among_at : {X : Type 0} (xs : List X) (k : ℕ) (d : X) → k < length xs → Among (get_or xs k d) xs
among_at [] k d h = absurd (omega arith)
among_at (x ∷ xs) zero d h = inl refl
among_at (x ∷ xs) (suc k) d h = inr (among_at xs k d (omega arith))

pub place_among : {X : Type 0} (xs : List X) (x : X) → Among x xs → Contains xs x
place_among [] x h = absurd h
place_among (y ∷ ys) x (inl e) = (0, (omega arith), sym e)
place_among (y ∷ ys) x (inr h) = let c = place_among ys x h in (suc c.0, (omega (arith, c.1)), c.2)

pub among_contained : {X : Type 0} (xs : List X) (x : X) → Contains xs x → Among x xs
among_contained xs x c = subst (λ y. Among y xs) c.2 (among_at xs c.0 x c.1)

pub all_among : {X : Type 0} (P : X → Type 0) (xs : List X) → All P xs → (x : X) → Among x xs → P x
all_among P xs all x h = let c = place_among xs x h in subst P c.2 (all c.0 x c.1)

pub all_from_among : {X : Type 0} (P : X → Type 0) (xs : List X) → ((x : X) → Among x xs → P x) → All P xs
all_from_among P xs h k d within = h (get_or xs k d) (among_at xs k d within)

-- ---- members of joined lists

pub among_left : {X : Type 0} (xs ys : List X) (x : X) → Among x xs → Among x (xs ++ ys)
among_left [] ys x h = absurd h
among_left (y ∷ xs) ys x (inl e) = inl e
among_left (y ∷ xs) ys x (inr h) = inr (among_left xs ys x h)

pub among_right : {X : Type 0} (xs ys : List X) (x : X) → Among x ys → Among x (xs ++ ys)
among_right [] ys x h = h
among_right (y ∷ xs) ys x h = inr (among_right xs ys x h)

pub among_both : {X : Type 0} (xs ys : List X) (x : X) → Among x (xs ++ ys) → Among x xs ⊎ Among x ys
among_both [] ys x h = inr h
among_both (y ∷ xs) ys x (inl e) = inl (inl e)
among_both (y ∷ xs) ys x (inr h) = elim (among_both xs ys x h) [
  | inl a ↦ inl (inr a)
  | inr b ↦ inr b
]

pub among_map : {X Y : Type 0} (f : X → Y) (xs : List X) (x : X) → Among x xs → Among (f x) (map f xs)
among_map f [] x h = absurd h
among_map f (y ∷ xs) x (inl e) = inl (ap f e)
among_map f (y ∷ xs) x (inr h) = inr (among_map f xs x h)

pub from_map : {X Y : Type 0} (f : X → Y) (xs : List X) (y : Y) → Among y (map f xs) → (x : X) × Among x xs × (y ≡ f x)
from_map f [] y h = absurd h
from_map f (x ∷ xs) y (inl e) = (x, inl refl, e)
from_map f (x ∷ xs) y (inr h) = let r = from_map f xs y h in (r.0, inr r.1, r.2)

pub among_flat : {X Y : Type 0} (f : X → List Y) (xs : List X) (x : X) (y : Y) → Among x xs → Among y (f x) → Among y (flat_map f xs)
among_flat f [] x y h k = absurd h
among_flat f (z ∷ xs) x y (inl e) k = among_left (f z) (flat_map f xs) y (subst (λ w. Among y (f w)) e k)
among_flat f (z ∷ xs) x y (inr h) k = among_right (f z) (flat_map f xs) y (among_flat f xs x y h k)

pub from_flat : {X Y : Type 0} (f : X → List Y) (xs : List X) (y : Y) → Among y (flat_map f xs) → (x : X) × Among x xs × Among y (f x)
from_flat f [] y h = absurd h
from_flat f (z ∷ xs) y h = elim (among_both (f z) (flat_map f xs) y h) [
  | inl a ↦ (z, inl refl, a)
  | inr b ↦ (let r = from_flat f xs y b in (r.0, inr r.1, r.2))
]

pub kept_by : {X : Type 0} (p : X → Bool) (xs : List X) (x : X) → Among x xs → p x ≡ true → Among x (filter p xs)
kept_by p [] x h t = absurd h
kept_by {X} p (y ∷ xs) x h t = go (p y) refl h (λ a. kept_by p xs x a t)
  where
    go : (b : Bool) → p y ≡ b → Among x (y ∷ xs) → (Among x xs → Among x (filter p xs)) → Among x (if b then y ∷ filter p xs else filter p xs)
    go true is (inl e) rest = inl e
    go true is (inr a) rest = inr (rest a)
    go false is (inl e) rest = let same : p x ≡ p y = ap p e in absurd (cc)
    go false is (inr a) rest = rest a

pub out_of : {X : Type 0} (p : X → Bool) (xs : List X) (x : X) → Among x (filter p xs) → Among x xs × (p x ≡ true)
out_of p [] x h = absurd h
out_of {X} p (y ∷ xs) x h = go (p y) refl h (λ a. out_of p xs x a)
  where
    go : (b : Bool) → p y ≡ b → Among x (if b then y ∷ filter p xs else filter p xs) → (Among x (filter p xs) → Among x xs × (p x ≡ true)) → Among x (y ∷ xs) × (p x ≡ true)
    go true is (inl e) rest = (inl e, ap p e ∙ is)
    go true is (inr a) rest = let r = rest a in (inr r.0, r.1)
    go false is a rest = let r = rest a in (inr r.0, r.1)

-- ---- each and those after it

abbrev pub Pairwise : {X : Type 0} → (X → X → Type 0) → List X → Type 0
Pairwise R [] = ⊤
Pairwise R (x ∷ xs) = ((y : _) → Among y xs → R x y) × Pairwise R xs

pub pairs_from : {X : Type 0} (R : X → X → Type 0) (xs : List X) → Pairwise R xs → AllPairs R xs
pairs_from R [] h i j d lt within = absurd (omega arith)
pairs_from R (x ∷ xs) h zero zero d lt within = absurd (omega arith)
pairs_from R (x ∷ xs) h zero (suc j) d lt within = h.0 (get_or xs j d) (among_at xs j d (omega arith))
pairs_from R (x ∷ xs) h (suc i) zero d lt within = absurd (omega arith)
pairs_from R (x ∷ xs) h (suc i) (suc j) d lt within = pairs_from R xs h.1 i j d (omega arith) (omega arith)

pub pairs_join : {X : Type 0} (R : X → X → Type 0) (xs ys : List X) → Pairwise R xs → Pairwise R ys → ((x y : X) → Among x xs → Among y ys → R x y) → Pairwise R (xs ++ ys)
pairs_join R [] ys h k across = k
pairs_join {X} R (x ∷ xs) ys h k across = (first, pairs_join R xs ys h.1 k (λ a b m n. across a b (inr m) n))
  where
    by : (y : X) → Among y xs ⊎ Among y ys → R x y
    by y (inl a) = h.0 y a
    by y (inr b) = across x y (inl refl) b

    first : (y : X) → Among y (xs ++ ys) → R x y
    first y a = by y (among_both xs ys y a)

pub pairs_map : {X Y : Type 0} (R : X → X → Type 0) (S : Y → Y → Type 0) (f : X → Y) (xs : List X) → ((x y : X) → R x y → S (f x) (f y)) → Pairwise R xs → Pairwise S (map f xs)
pairs_map R S f [] g h = tt
pairs_map R S f (x ∷ xs) g h = ((λ y a. let r = from_map f xs y a in subst (S (f x)) (sym r.2) (g x r.0 (h.0 r.0 r.1))), pairs_map R S f xs g h.1)

pub pairs_weaken : {X : Type 0} (R S : X → X → Type 0) (xs : List X) → ((x y : X) → R x y → S x y) → Pairwise R xs → Pairwise S xs
pairs_weaken R S [] g h = tt
pairs_weaken R S (x ∷ xs) g h = ((λ y a. g x y (h.0 y a)), pairs_weaken R S xs g h.1)

pub pairs_filter : {X : Type 0} (R : X → X → Type 0) (p : X → Bool) (xs : List X) → Pairwise R xs → Pairwise R (filter p xs)
pairs_filter R p [] h = tt
pairs_filter {X} R p (x ∷ xs) h = go (p x) (pairs_filter R p xs h.1)
  where
    go : (b : Bool) → Pairwise R (filter p xs) → Pairwise R (if b then x ∷ filter p xs else filter p xs)
    go true rest = ((λ y a. h.0 y (out_of p xs y a).0), rest)
    go false rest = rest
