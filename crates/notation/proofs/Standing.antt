-- Tokens that stand side by side.
use Rattle.std.proofs.Common.{◌≡◌, ℕ, ◌*◌, ◌<◌, ◌≤◌, List, [], ◌∷◌, ◌++◌, take, drop, refl, sym, ap, ◌∙◌, subst, arith}
use Rattle.std.specs.Prelude.{All}
use Rattle.std.proofs.lemmas.List.{take-append-drop}
use Rattle.std.proofs.lemmas.List.Elements.{All-cons, All-nil, All-weaker}
use Rattle.notation.specs.Places.{whole_of}
use Rattle.notation.specs.Runs.{AreRun, StandBetween}
use Rattle.notation.specs.Tokens.{Token}

pub stand_le : (r from to : ℕ) (ts : List Token) → StandBetween r from ts to → from ≤ to
stand_le r from to [] h = omega (arith, h)
stand_le r from to (t ∷ ts) h = let e = stand_le r t.end to ts h.3 in omega (arith, h.0, h.1, e)

abbrev pub IsWithin : ℕ → ℕ → Token → Type 0
IsWithin from to t = (from ≤ t.start) × (t.start < t.end) × (t.end ≤ to)

pub stand_all : (r from to : ℕ) (ts : List Token) → StandBetween r from ts to → All (IsWithin from to) ts
stand_all r from to [] h = All-nil (IsWithin from to)
stand_all r from to (t ∷ ts) h =
    let e = stand_le r t.end to ts h.3 in
    All-cons (IsWithin from to) t ts (omega (arith, h.0), h.1, e)
    (All-weaker (IsWithin t.end to) (IsWithin from to) (λ u k. (omega (arith, h.0, h.1, k.0), k.1, k.2)) ts (stand_all r t.end to ts h.3))

-- a run and another after it
pub stand_append : (r from to : ℕ) (xs ys : List Token) → StandBetween r from (xs ++ ys) to
    → (mid : ℕ) × StandBetween r from xs mid × StandBetween r mid ys to
stand_append r from to [] ys h = (from, refl, h)
stand_append r from to (x ∷ xs) ys h = let rest = stand_append r x.end to xs ys h.3 in (rest.0, (h.0, h.1, h.2, rest.1), rest.2)

pub run_front : (r : ℕ) (xs ys : List Token) → AreRun r (xs ++ ys) → AreRun r xs
run_front r xs ys h =
    let parts = stand_append r h.from h.to xs ys h.stand in
    let le = stand_le r parts.0 h.to ys parts.2 in
    record { from = h.from; to = parts.0; stand = parts.1; within = omega (arith, le, h.within) }

pub run_back : (r : ℕ) (xs ys : List Token) → AreRun r (xs ++ ys) → AreRun r ys
run_back r xs ys h =
    let parts = stand_append r h.from h.to xs ys h.stand in
    record { from = parts.0; to = h.to; stand = parts.2; within = h.within }

-- the tokens after one end after it starts, and within 64 whole notes
pub later_ends : (r : ℕ) (t : Token) (more : List Token) → AreRun r (t ∷ more) → All (λ u. (t.start < u.end) × (u.end ≤ 64 * whole_of r)) more
later_ends r t more h =
    All-weaker (IsWithin t.end h.to) (λ u. (t.start < u.end) × (u.end ≤ 64 * whole_of r))
    (λ u k. (omega (arith, h.stand.1, k.0, k.1), omega (arith, k.2, h.within))) more
    (stand_all r t.end h.to more h.stand.3)

-- those after the first of a run and so many more
pub run_after : (r k : ℕ) (ts more : List Token) (t : Token) → ts ≡ t ∷ more → AreRun r ts → AreRun r (drop k more)
run_after r k ts more t split h =
    let all : ts ≡ (t ∷ take k more) ++ drop k more = split ∙ ap (λ us. t ∷ us) (sym (take-append-drop k more)) in
    run_back r (t ∷ take k more) (drop k more) (subst (AreRun r) all h)
