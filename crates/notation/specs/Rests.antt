-- Rests that follow one another are one where the one hides no beat.
use Rattle.std.specs.Prelude.{ℕ, ◌-◌, ◌*◌, ◌%◌, ◌==◌, nat_lt, nat_le, Bool, ◌&&◌, ◌||◌, if◌then◌else◌, List, [], ◌∷◌, map, take_while}
use Rattle.std.proofs.Common.{suc, zero}
use Rattle.std.specs.Int.{is_power_of_two}
use Rattle.derivation.specs.declared.score.ScoreBar.{ScoreBar}
use Rattle.notation.specs.Places.{is_halved, whole_of}
use Rattle.notation.specs.Tokens.{Token, is_silent}

-- ---- joining

-- the number, from 1, of the last of the places that may be, 0 where none may
abbrev pub last_number : (ℕ → Bool) → List ℕ → ℕ
last_number may [] = 0
last_number may (place ∷ places) = if nat_lt 0 (last_number may places) then suc (last_number may places) else (if may place then 1 else 0)

-- a token that ends where so many tokens after it have ended, and goes on as the last of them does
abbrev pub joined : ℕ → Token → List Token → Token
joined zero t more = t
joined (suc n) t [] = t
joined (suc n) t (u ∷ more) = joined n (record t { end = u.end; goes = u.goes }) more

-- The tokens, from left to right, each joined with as many after it as `count` says. So many of the first are joined to an earlier one:
-- they are not looked at again
abbrev pub joined_from : (Token → List Token → ℕ) → ℕ → List Token → List Token
joined_from count taken [] = []
joined_from count zero (t ∷ more) = joined (count t more) t more ∷ joined_from count (count t more) more
joined_from count (suc taken) (t ∷ more) = joined_from count taken more

-- ---- rests

-- One rest may stand from here to there. It begins at a multiple of its length, and it is three beats, where the bar has threes of them, or
-- a whole note, a half, a quarter .., and then no more than a beat unless the bar has 1, 2, 4, 8 .. of them
abbrev pub may_stand : ℕ → ScoreBar → ℕ → ℕ → Bool
may_stand resolution bar start end =
    (start % (end - start) == 0)
    && (((bar.num % 3 == 0) && ((end - start) * bar.den == 3 * whole_of resolution))
    || (is_halved (whole_of resolution) (end - start) && (nat_le ((end - start) * bar.den) (whole_of resolution) || is_power_of_two bar.num)))

-- a rest takes as many rests right after it as may be, of all such numbers the greatest; a token with keys takes none
abbrev pub rests_taken : ℕ → ScoreBar → Token → List Token → ℕ
rests_taken resolution bar t more =
    if is_silent t then last_number (may_stand resolution bar t.start) (map (λ u. u.end) (take_while is_silent more)) else 0

abbrev pub joined_rests : ℕ → ScoreBar → List Token → List Token
joined_rests resolution bar tokens = joined_from (rests_taken resolution bar) 0 tokens
