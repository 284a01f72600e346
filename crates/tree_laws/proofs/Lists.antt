-- What `filter` gives of chords in the order of their onsets.
use Rattle.std.proofs.Common.{◌≡◌, ℕ, ◌+◌, ◌≤◌, Bool, true, false, ◌||◌, cond, List, [], ◌∷◌, ◌++◌, map, filter, refl, ap, ap₂, ◌∙◌, arith}
use Rattle.rhythm_base.specs.declared.inner.Inner.{Inner}
use Rattle.rhythm_base.specs.Line.{Rising}

-- none is kept, where the test fails from low on
pub filter_nothing : (p : ℕ → Bool) (low : ℕ) (cs : List Inner) → Rising low cs → ((u : ℕ) → low ≤ u → p u ≡ false) → filter (λ c. p c.onset) cs ≡ []
filter_nothing p low [] rise h = refl
filter_nothing p low (c ∷ cs) rise h = rw (h c.onset rise.0) (filter_nothing p (c.onset + 1) cs rise.1 (λ u le. h u (let first : low ≤ c.onset = rise.0 in omega arith)))

-- what passes one of two tests, where nothing that passes the first comes after something that passes the second
pub filter_split : (p q r : ℕ → Bool) (low : ℕ) (cs : List Inner) → Rising low cs
    → ((t : ℕ) → p t ≡ q t || r t) → ((t u : ℕ) → t ≤ u → r t ≡ true → q u ≡ false)
    → filter (λ c. p c.onset) cs ≡ filter (λ c. q c.onset) cs ++ filter (λ c. r c.onset) cs
filter_split p q r low [] rise is order = refl
filter_split p q r low (c ∷ cs) rise is order = go (q c.onset) (r c.onset) refl refl (filter_split p q r (c.onset + 1) cs rise.1 is order)
  where
    go : (a b : Bool) → q c.onset ≡ a → r c.onset ≡ b
        → filter (λ c. p c.onset) cs ≡ filter (λ c. q c.onset) cs ++ filter (λ c. r c.onset) cs
        → filter (λ c. p c.onset) (c ∷ cs) ≡ cond a (c ∷ filter (λ c. q c.onset) cs) (filter (λ c. q c.onset) cs) ++ cond b (c ∷ filter (λ c. r c.onset) cs) (filter (λ c. r c.onset) cs)
    go true true e k ih = let no : q c.onset ≡ false = order c.onset c.onset (omega arith) k in absurd (cc)
    go true false e k ih = rw (is c.onset, e) (ap (λ l. c ∷ l) ih)
    go false true e k ih =
        let none : filter (λ c. q c.onset) cs ≡ [] = filter_nothing q (c.onset + 1) cs rise.1 (λ u le. order c.onset u (omega arith) k) in
        rw (is c.onset, e, k, none) (ap (λ l. c ∷ l) (ih ∙ ap (λ l. l ++ filter (λ c. r c.onset) cs) none))
    go false false e k ih = rw (is c.onset, e, k) ih

-- two functions that give the same for what passes
pub map_kept : {A B : Type 0} (p : A → Bool) (f g : A → B) → ((x : A) → p x ≡ true → f x ≡ g x) → (xs : List A) → map f (filter p xs) ≡ map g (filter p xs)
map_kept p f g same [] = refl
map_kept {A} {B} p f g same (x ∷ xs) = go (p x) refl (map_kept p f g same xs)
  where
    go : (b : Bool) → p x ≡ b → map f (filter p xs) ≡ map g (filter p xs) → map f (cond b (x ∷ filter p xs) (filter p xs)) ≡ map g (cond b (x ∷ filter p xs) (filter p xs))
    go true e ih = ap₂ ◌∷◌ (same x e) ih
    go false e ih = ih

pub map_twice : {A B C : Type 0} (g : B → C) (f : A → B) (xs : List A) → map g (map f xs) ≡ map (λ x. g (f x)) xs
map_twice g f [] = refl
map_twice g f (x ∷ xs) = ap (λ l. g (f x) ∷ l) (map_twice g f xs)
