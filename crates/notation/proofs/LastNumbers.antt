-- The number of the last place that may be.
use Rattle.std.proofs.Common.{◌≡◌, ℕ, zero, suc, ◌+◌, ◌<◌, ◌≤◌, Bool, true, false, cond, List, [], ◌∷◌, ◌++◌, length, get_or, map, take, refl, sym, ap, ◌∙◌, arith}
use Rattle.std.specs.Prelude.{nat_lt}
use Rattle.std.proofs.lemmas.Bool.Decides.{nat_tests}
use Rattle.std.proofs.lemmas.List.{length-map, length-take-le, map-append, take_more}
use Rattle.notation.specs.Rests.{last_number}
use Rattle.notation.specs.Tokens.{Token, ends}

above : (n m : ℕ) → cond (nat_lt 0 (suc n)) (suc (suc n)) m ≡ suc (suc n)
above n m = grind (arith, nat_tests)

-- one more place
pub last_push : (may : ℕ → Bool) (ps : List ℕ) (p : ℕ) → last_number may (ps ++ p ∷ []) ≡ cond (may p) (suc (length ps)) (last_number may ps)
last_push may [] p = refl
last_push may (q ∷ qs) p = go (may p) (last_push may qs p)
  where
    go : (b : Bool) → last_number may (qs ++ p ∷ []) ≡ cond b (suc (length qs)) (last_number may qs) → last_number may (q ∷ qs ++ p ∷ []) ≡ cond b
        (suc (length (q ∷ qs))) (last_number may (q ∷ qs))
    go true e = ap (λ n. cond (nat_lt 0 n) (suc n) (cond (may q) 1 0)) e ∙ above (length qs) (cond (may q) 1 0)
    go false e = ap (λ n. cond (nat_lt 0 n) (suc n) (cond (may q) 1 0)) e

-- one more token
pub last_step : (may : ℕ → Bool) (ts : List Token) (i : ℕ) (t : Token) (b : Bool) (last new : ℕ) → i < length ts → t ≡ get_or ts i t → b ≡ may t.end
    → last ≡ last_number may (ends (take i ts)) → (b ≡ true → new ≡ i + 1) → (b ≡ false → new ≡ last) → new ≡ last_number may (ends (take (i + 1) ts))
last_step may ts i t b last new lt is test h taken kept = go b test taken kept ∙ sym all
  where
    count : length (ends (take i ts)) ≡ i
    count = length-map (take i ts) (λ (t : Token). t.end) ∙ length-take-le i ts (omega (arith, lt))

    list : ends (take (i + 1) ts) ≡ ends (take i ts) ++ t.end ∷ []
    list = ap ends (take_more ts i t lt) ∙ map-append (λ (t : Token). t.end) (take i ts) (get_or ts i t ∷ []) ∙ ap
        (λ (u : Token). ends (take i ts) ++ u.end ∷ []) (sym is)

    all : last_number may (ends (take (i + 1) ts)) ≡ cond (may t.end) (suc i) last
    all = ap (last_number may) list ∙ last_push may (ends (take i ts)) t.end ∙ ap
        (λ n. cond (may t.end) (suc n) (last_number may (ends (take i ts)))) count ∙ ap (λ n. cond (may t.end) (suc i) n) (sym h)

    go : (b : Bool) → b ≡ may t.end → (b ≡ true → new ≡ i + 1) → (b ≡ false → new ≡ last) → new ≡ cond (may t.end) (suc i) last
    go true e f g = f refl ∙ omega arith ∙ ap (λ c. cond c (suc i) last) e
    go false e f g = g refl ∙ ap (λ c. cond c (suc i) last) e

-- the last place that may be is one of the places
pub last_holds : (may : ℕ → Bool) (ps : List ℕ) (n : ℕ) → last_number may ps ≡ suc n → (n < length ps) × (may (get_or ps n 0) ≡ true)
last_holds may [] n h = absurd (omega (arith, h))
last_holds may (p ∷ ps) n h = go (last_number may ps) (last_holds may ps) (may p) refl n h
  where
    go : (m : ℕ) → ((k : ℕ) → m ≡ suc k → (k < length ps) × (may (get_or ps k 0) ≡ true)) → (b : Bool) → may p ≡ b → (n : ℕ) → cond (nat_lt 0 m) (suc m)
        (cond b 1 0) ≡ suc n
        → (n < length (p ∷ ps)) × (may (get_or (p ∷ ps) n 0) ≡ true)
    go zero next true f zero h = (omega arith, f)
    go zero next true f (suc n) h = absurd (omega (arith, h))
    go zero next false f n h = absurd (omega (arith, h))
    go (suc m) next b f zero h = let g = above m (cond b 1 0) in absurd (omega (arith, g, h))
    go (suc m) next b f (suc n) h =
        let g = above m (cond b 1 0) in
        let rest = next n (omega (arith, g, h)) in
        (omega (arith, rest.0), rest.1)

-- it is no more than there are places
pub last_few : (may : ℕ → Bool) (ps : List ℕ) → last_number may ps ≤ length ps
last_few may ps = go (last_number may ps) refl
  where
    go : (n : ℕ) → last_number may ps ≡ n → n ≤ length ps
    go zero e = omega arith
    go (suc n) e = let h = last_holds may ps n e in omega (arith, h.0)
