-- Tokens whose places rise.
use Rattle.std.proofs.Common.{◌≡◌, ℕ, suc, ◌≤◌, ◌<◌, List, [], ◌∷◌, Some, None, cond, drop, length, ◌≢◌, ◌⊎◌, inl, inr, refl, sym, ap, ◌∙◌, subst, arith}
use Rattle.std.specs.Prelude.{◌==◌, nat_lt, true, false, is_some, slice_get}
use Rattle.std.proofs.lemmas.Bool.{cases_eq, cases_lt, false≢true}
use Rattle.std.proofs.lemmas.Bool.Decides.{nat_tests}
use Rattle.kern_writer.specs.Columns.{RiseFrom, tokens_after}
use Rattle.kern_writer.specs.Records.{token_at}
use Rattle.kern_writer.specs.Tokens.{Token}

pub rise_weaker : (p q : ℕ) (ts : List Token) → p ≤ q → RiseFrom q ts → RiseFrom p ts
rise_weaker p q [] le h = h
rise_weaker p q (t ∷ ts) le h = (omega (arith, h.0), h.1)

at_same : (p : ℕ) (t : Token) (ts : List Token) → t.place ≡ p → token_at p (t ∷ ts) ≡ Some t
at_same p t ts e = let test : (t.place == p) ≡ true = grind (arith, nat_tests) in ap (λ b. cond b (Some t) (token_at p ts)) test

at_other : (p : ℕ) (t : Token) (ts : List Token) → p < t.place → token_at p (t ∷ ts) ≡ token_at p ts
at_other p t ts lt = let test : (t.place == p) ≡ false = grind (arith, nat_tests) in ap (λ b. cond b (Some t) (token_at p ts)) test

after_none : (p : ℕ) (t : Token) (ts : List Token) → t.place ≡ p → tokens_after p (t ∷ ts) ≡ tokens_after p ts
after_none p t ts e = let test : nat_lt p t.place ≡ false = grind (arith, nat_tests) in ap (λ b. cond b (t ∷ tokens_after p ts) (tokens_after p ts)) test

after_one : (p : ℕ) (t : Token) (ts : List Token) → p < t.place → tokens_after p (t ∷ ts) ≡ t ∷ tokens_after p ts
after_one p t ts lt = let test : nat_lt p t.place ≡ true = grind (arith, nat_tests) in ap (λ b. cond b (t ∷ tokens_after p ts) (tokens_after p ts)) test

-- there is no token before the first, and all tokens are after a place before it
pub none_before : (p q : ℕ) (ts : List Token) → p < q → RiseFrom q ts → token_at p ts ≡ None
none_before p q [] lt h = refl
none_before p q (t ∷ ts) lt h = let past : p < t.place = omega (arith, h.0) in at_other p t ts past ∙ none_before p (suc t.place) ts (omega (arith, past)) h.1

pub all_after : (p q : ℕ) (ts : List Token) → p < q → RiseFrom q ts → tokens_after p ts ≡ ts
all_after p q [] lt h = refl
all_after p q (t ∷ ts) lt h = let past : p < t.place = omega (arith, h.0) in after_one p t ts past ∙ ap (λ us. t ∷ us) (all_after p (suc t.place) ts (omega (arith, past)) h.1)

-- ---- the token at a place that none is before is the first, if any

after_here : (p : ℕ) (t : Token) (ts : List Token) → t.place ≡ p → RiseFrom p (t ∷ ts) → tokens_after p (t ∷ ts) ≡ ts
after_here p t ts e h = after_none p t ts e ∙ all_after p (suc t.place) ts (omega (arith, e)) h.1

-- where it is that of the first
pub here : (p : ℕ) (ts : List Token) (t : Token) → Some t ≡ slice_get ts 0 → t.place ≡ p → Some t ≡ token_at p ts
here p [] t first e = cc
here p (u ∷ us) t first e = let same : t ≡ u = cc in first ∙ sym (at_same p u us (ap (λ x. x.place) (sym same) ∙ e))

pub after_first : (p : ℕ) (ts : List Token) → RiseFrom p ts → is_some (token_at p ts) ≡ true → tokens_after p ts ≡ drop 1 ts
after_first p [] h some = refl
after_first p (t ∷ ts) h some = go (cases_eq t.place p)
  where
    go : (t.place ≡ p) ⊎ (t.place ≢ p) → tokens_after p (t ∷ ts) ≡ ts
    go (inl e) = after_here p t ts e h
    go (inr ne) = absurd (false≢true (sym (ap is_some (none_before p (suc p) (t ∷ ts) (omega arith) (omega (arith, ne, h.0), h.1))) ∙ some))

-- where it is none
pub not_here : (p : ℕ) (ts : List Token) (t : Token) → RiseFrom p ts → Some t ≡ slice_get ts 0 → (t.place ≡ p → ⊥) → token_at p ts ≡ None
not_here p [] t h first ne = refl
not_here p (u ∷ us) t h first ne =
    let same : u ≡ t = cc in
    none_before p (suc p) (u ∷ us) (omega arith) (omega (arith, h.0, λ (e : u.place ≡ p). ne (ap (λ x. x.place) (sym same) ∙ e)), h.1)

pub none_left : (p : ℕ) (ts : List Token) → None ≡ slice_get ts 0 → token_at p ts ≡ None
none_left p [] first = refl
none_left p (t ∷ ts) first = cc

pub after_same : (p : ℕ) (ts : List Token) → RiseFrom p ts → is_some (token_at p ts) ≡ false → tokens_after p ts ≡ ts
after_same p [] h none = refl
after_same p (t ∷ ts) h none = go (cases_eq t.place p)
  where
    go : (t.place ≡ p) ⊎ (t.place ≢ p) → tokens_after p (t ∷ ts) ≡ t ∷ ts
    go (inl e) = absurd (false≢true (sym none ∙ ap is_some (at_same p t ts e)))
    go (inr ne) = all_after p (suc p) (t ∷ ts) (omega arith) (omega (arith, ne, h.0), h.1)

-- ---- what is left after a place

after_skip : (p : ℕ) (t : Token) (ts : List Token) → t.place ≤ p → tokens_after p (t ∷ ts) ≡ tokens_after p ts
after_skip p t ts le = let test : nat_lt p t.place ≡ false = grind (arith, nat_tests) in ap (λ b. cond b (t ∷ tokens_after p ts) (tokens_after p ts)) test

at_another : (p : ℕ) (t : Token) (ts : List Token) → t.place ≢ p → token_at p (t ∷ ts) ≡ token_at p ts
at_another p t ts ne = let test : (t.place == p) ≡ false = grind (arith, nat_tests) in ap (λ b. cond b (Some t) (token_at p ts)) test

pub after_at : (p q : ℕ) (ts : List Token) → p < q → token_at q (tokens_after p ts) ≡ token_at q ts
after_at p q [] lt = refl
after_at p q (t ∷ ts) lt = go (cases_lt p t.place) (after_at p q ts lt)
  where
    go : (p < t.place) ⊎ (t.place ≤ p) → token_at q (tokens_after p ts) ≡ token_at q ts → token_at q (tokens_after p (t ∷ ts)) ≡ token_at q (t ∷ ts)
    go (inl past) next = ap (token_at q) (after_one p t ts past) ∙ ap (λ o. cond (t.place == q) (Some t) o) next
    go (inr le) next = ap (token_at q) (after_skip p t ts le) ∙ next ∙ sym (at_another q t ts (λ e. omega (arith, e, le, lt)))

pub after_rise : (p : ℕ) (ts : List Token) → RiseFrom p ts → RiseFrom (suc p) (tokens_after p ts)
after_rise p [] h = tt
after_rise p (t ∷ ts) h = go (cases_eq t.place p)
  where
    go : (t.place ≡ p) ⊎ (t.place ≢ p) → RiseFrom (suc p) (tokens_after p (t ∷ ts))
    go (inl e) = subst (RiseFrom (suc p)) (sym (after_here p t ts e h)) (subst (λ n. RiseFrom (suc n) ts) e h.1)
    go (inr ne) =
        let past : suc p ≤ t.place = omega (arith, ne, h.0) in
        subst (RiseFrom (suc p)) (sym (all_after p (suc p) (t ∷ ts) (omega arith) (past, h.1))) (past, h.1)

pub after_le : (p : ℕ) (ts : List Token) → length (tokens_after p ts) ≤ length ts
after_le p [] = omega arith
after_le p (t ∷ ts) = go (cases_lt p t.place) (after_le p ts)
  where
    go : (p < t.place) ⊎ (t.place ≤ p) → length (tokens_after p ts) ≤ length ts → length (tokens_after p (t ∷ ts)) ≤ length (t ∷ ts)
    go (inl past) next = omega (arith, ap length (after_one p t ts past), next)
    go (inr le) next = omega (arith, ap length (after_skip p t ts le), next)

pub after_lt : (p : ℕ) (ts : List Token) → RiseFrom p ts → is_some (token_at p ts) ≡ true → length (tokens_after p ts) < length ts
after_lt p [] h some = absurd (false≢true some)
after_lt p (t ∷ ts) h some = let e = after_first p (t ∷ ts) h some in omega (arith, ap length e)
