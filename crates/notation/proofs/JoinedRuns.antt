-- Tokens of which some are joined stand side by side as before.
use Rattle.std.proofs.Common.{◌≡◌, ℕ, zero, suc, ◌+◌, ◌-◌, ◌*◌, ◌≤◌, Bool, true, false, cond, List, [], ◌∷◌, get_or, take, refl, sym, ap, ◌∙◌, subst, ◌⊎◌, inl, inr, arith}
use Rattle.std.specs.Prelude.{◌==◌, ◌&&◌, ◌||◌}
use Rattle.std.specs.List.{prefix_len}
use Rattle.std.proofs.Math.Nat.{mul-le-mul_left}
use Rattle.std.proofs.lemmas.Bool.Decides.{nat_tests}
use Rattle.rhythm_base.proofs.Beats.{some_beat}
use Rattle.derivation.specs.declared.score.ScoreBar.{ScoreBar}
use Rattle.derivation.specs.Score.{IsScoreBar}
use Rattle.notation.specs.Places.{is_halved, whole_of}
use Rattle.notation.specs.Rests.{joined, joined_from, joined_rests, last_number, may_stand, rests_taken}
use Rattle.notation.specs.Runs.{StandBetween}
use Rattle.notation.specs.Tokens.{Token, is_silent, ends}
use Rattle.notation.proofs.Halved.{halved_le, taken_at}
use Rattle.notation.proofs.Joining.{ended, joined_at}

-- where so many tokens more have ended
abbrev pub end_after : ℕ → ℕ → List Token → ℕ
end_after zero e ts = e
end_after (suc n) e [] = e
end_after (suc n) e (t ∷ ts) = end_after n t.end ts

pub joined_end : (k : ℕ) (t : Token) (more : List Token) → (joined k t more).end ≡ end_after k t.end more
joined_end zero t more = refl
joined_end (suc k) t [] = refl
joined_end (suc k) t (u ∷ more) = joined_end k (ended t u) more

pub joined_start : (k : ℕ) (t : Token) (more : List Token) → (joined k t more).start ≡ t.start
joined_start zero t more = refl
joined_start (suc k) t [] = refl
joined_start (suc k) t (u ∷ more) = joined_start k (ended t u) more

end_rises : (r k e to : ℕ) (ts : List Token) → StandBetween r e ts to → e ≤ end_after k e ts
end_rises r zero e to ts h = omega arith
end_rises r (suc k) e to [] h = omega arith
end_rises r (suc k) e to (t ∷ ts) h = let f = end_rises r k t.end to ts h.3 in omega (arith, h.0, h.1, f)

-- no token is joined with so many that it is longer than 8 whole notes
abbrev pub AreFew : ℕ → (Token → List Token → ℕ) → ℕ → Type 0
AreFew r count to = (t : Token) (more : List Token) → StandBetween r t.start (t ∷ more) to → (joined (count t more) t more).end ≤ t.start + 8 * whole_of r

pub joined_stand : (r : ℕ) (count : Token → List Token → ℕ) (taken from to : ℕ) (ts : List Token) → AreFew r count to → StandBetween r from ts to
    → StandBetween r (end_after taken from ts) (joined_from count taken ts) to
joined_stand r count zero from to [] few h = h
joined_stand r count (suc taken) from to [] few h = h
joined_stand r count (suc taken) from to (t ∷ more) few h = joined_stand r count taken t.end to more few h.3
joined_stand r count zero from to (t ∷ more) few h =
    let k = count t more in
    let start = joined_start k t more in
    let end = joined_end k t more in
    let rise = end_rises r k t.end to more h.3 in
    let short = few t more (refl, h.1, h.2, h.3) in (
      start ∙ h.0,
      omega (arith, start, end, rise, h.1),
      omega (arith, start, short),
      subst (λ e. StandBetween r e (joined_from count k more) to) (sym end) (joined_stand r count k t.end to more few h.3),
    )

-- ---- joined rests

or_cases : (a b c d e : Bool) → (a && ((b && c) || (d && e))) ≡ true → (c ≡ true) ⊎ (d ≡ true)
or_cases true true true d e h = inl refl
or_cases true true false true e h = inr refl
or_cases true true false false e h = absurd (cc)
or_cases true false c true e h = inr refl
or_cases true false c false e h = absurd (cc)
or_cases false b c d e h = absurd (cc)

-- one rest that may stand is no longer than three whole notes
stands_few : (r : ℕ) (bar : ScoreBar) (start end : ℕ) → 1 ≤ r → IsScoreBar bar → may_stand r bar start end ≡ true → end - start ≤ 3 * whole_of r
stands_few r bar start end some h stands = go (or_cases _ _ (len * bar.den == 3 * whole_of r) (is_halved (whole_of r) len) _ stands)
  where
    len : ℕ
    len = end - start

    go : ((len * bar.den == 3 * whole_of r) ≡ true) ⊎ (is_halved (whole_of r) len ≡ true) → end - start ≤ 3 * whole_of r
    go (inl e) =
        let same : len * bar.den ≡ 3 * whole_of r = grind (arith, nat_tests, e) in
        let le : len * 1 ≤ len * bar.den = mul-le-mul_left len (some_beat bar.den h.signature.power) in
        omega (arith, same, le)
    go (inr e) = let le = halved_le (whole_of r) len (omega (arith, some)) e in omega (arith, le)

rests_few : (r : ℕ) (bar : ScoreBar) (to : ℕ) → 1 ≤ r → IsScoreBar bar → AreFew r (rests_taken r bar) to
rests_few r bar to some h t more stand = go (is_silent t)
  where
    n : ℕ
    n = prefix_len is_silent more

    last : ℕ
    last = last_number (may_stand r bar t.start) (ends (take n more))

    at : (j : ℕ) → last ≡ j → (joined j t more).end ≤ t.start + 8 * whole_of r
    at zero e = stand.2
    at (suc j) e =
        let own = taken_at (may_stand r bar t.start) n j t more e in
        let few = stands_few r bar t.start (get_or more j t).end some h own.1 in
        let end = ap (λ (u : Token). u.end) (joined_at j t more t own.0) in
        omega (arith, few, end)

    go : (b : Bool) → (joined (cond b last 0) t more).end ≤ t.start + 8 * whole_of r
    go true = at last refl
    go false = stand.2

pub rests_stand : (r : ℕ) (bar : ScoreBar) (from to : ℕ) (ts : List Token) → 1 ≤ r → IsScoreBar bar → StandBetween r from ts to → StandBetween r from
    (joined_rests r bar ts) to
rests_stand r bar from to ts some h stand = joined_stand r (rests_taken r bar) 0 from to ts (rests_few r bar to some h) stand
