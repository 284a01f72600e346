-- Each group of a bar starts and ends at a plain place.
use Rattle.std.proofs.Common.{◌≡◌, ℕ, ◌*◌, ◌%◌, Bool, true, false, cond, List, [], ◌∷◌, ◌++◌, append_assoc, length, refl, sym, ap, ◌∙◌, subst, arith}
use Rattle.std.specs.Prelude.{◌==◌, ◌&&◌, All, map, sum, sum_by}
use Rattle.std.specs.Int.{◌∣◌}
use Rattle.std.proofs.Math.Nat.{dvd-mul_right}
use Rattle.std.proofs.lemmas.Bool.Decides.{nat_tests}
use Rattle.std.proofs.lemmas.List.{append-nil}
use Rattle.std.proofs.lemmas.List.Elements.{All-cons, All-nil}
use Rattle.std.proofs.lemmas.List.Sums.{sum-map, sum_by-cons}
use Rattle.std.proofs.lemmas.Nat.Gcd.{dvd-zero, dvd_trans, mod-eq-zero_of_dvd}
use Rattle.rhythm_base.specs.declared.sound.Sound.{Sound}
use Rattle.rhythm_base.specs.Lists.{last_end}
use Rattle.durations.specs.declared.joined.Timed.{Timed}
use Rattle.derivation.specs.declared.score.ScoreBar.{ScoreBar}
use Rattle.voice_values.specs.Values.{timed}
use Rattle.voice_values.proofs.TimedSounds.{width_of}
use Rattle.notation.specs.Bars.{are_silent}
use Rattle.notation.specs.Groups.{group_end, group_start, is_whole, parted, parted_from}
use Rattle.notation.specs.Laws.{ArePlain, GroupsArePlain}
use Rattle.notation.specs.Places.{IsOddPart, is_plain}
use Rattle.notation.specs.Rests.{joined_rests}
use Rattle.notation.specs.Runs.{StandBetween}
use Rattle.notation.specs.Tokens.{Token, bar_tokens}
use Rattle.notation.proofs.BarRuns.{bar_end, bar_values_stand, scale}
use Rattle.notation.proofs.CutRuns.{tokens_stand}
use Rattle.notation.proofs.JoinedRuns.{rests_stand}
use Rattle.notation.proofs.Spelled.{odd_divides}
use Rattle.notation.proofs.Standing.{stand_append}

pub plain_at : (odd place : ℕ) → odd ∣ place → is_plain odd place ≡ true
plain_at odd place part = go (place % odd) (mod-eq-zero_of_dvd odd part)
  where
    go : (rest : ℕ) → rest ≡ 0 → (rest == 0) ≡ true
    go rest e = grind (arith, nat_tests)

-- ---- where tokens side by side start and end

first_of : (r from to : ℕ) (xs : List Token) (t : Token) (ys : List Token) → StandBetween r from (xs ++ t ∷ ys) to → group_start (xs ++ t ∷ ys) ≡ from
first_of r from to [] t ys h = h.0
first_of r from to (x ∷ xs) t ys h = h.0

ends_at : (r e to : ℕ) (ts : List Token) → StandBetween r e ts to → last_end e (map (λ (t : Token). t.end) ts) ≡ to
ends_at r e to [] h = h
ends_at r e to (t ∷ ts) h = ends_at r t.end to ts h.3

last_of : (r from to : ℕ) (xs : List Token) (t : Token) → StandBetween r from (xs ++ t ∷ []) to → group_end (xs ++ t ∷ []) ≡ to
last_of r from to [] t h = h.3
last_of r from to (x ∷ xs) t h = ends_at r x.end to (xs ++ t ∷ []) h.3

-- ---- the groups of tokens side by side

and_first : (a b : Bool) → (a && b) ≡ true → a ≡ true
and_first true b h = refl
and_first false b h = absurd (cc)

pub parted_plain :
    (r odd from to : ℕ) (waiting ts : List Token) → is_plain odd from ≡ true → is_plain odd to ≡ true → StandBetween r from (waiting ++ ts) to
    → All (ArePlain odd) (parted_from r odd waiting ts)
parted_plain r odd from to [] [] start end h = All-nil (ArePlain odd)
parted_plain r odd from to (w ∷ ws) [] start end h =
    let stand = subst (λ us. StandBetween r from us to) (append-nil (w ∷ ws)) h in
    let some : (length (w ∷ ws) == 0) ≡ false = grind (arith, nat_tests) in
    let first : is_plain odd w.start ≡ true = ap (is_plain odd) stand.0 ∙ start in
    let last : is_plain odd (group_end (w ∷ ws)) ≡ true = ap (is_plain odd) (ends_at r w.end to ws stand.3) ∙ end in
    subst (λ b. All (ArePlain odd) (cond b [] ((w ∷ ws) ∷ []))) (sym some) (All-cons (ArePlain odd) (w ∷ ws) [] (first, last) (All-nil (ArePlain odd)))
parted_plain r odd from to waiting (t ∷ more) start end h =
    go (is_whole r odd g more) refl (parted_plain r odd from to g more start end stand) (λ mid plain next. parted_plain r odd mid to [] more plain end next)
  where
    g : List Token
    g = waiting ++ t ∷ []

    stand : StandBetween r from (g ++ more) to
    stand = subst (λ us. StandBetween r from us to) (sym (append_assoc waiting (t ∷ []) more)) h

    go : (b : Bool) → is_whole r odd g more ≡ b → All (ArePlain odd) (parted_from r odd g more)
        → ((mid : ℕ) → is_plain odd mid ≡ true → StandBetween r mid more to → All (ArePlain odd) (parted_from r odd [] more))
        → All (ArePlain odd) (cond b (g ∷ parted_from r odd [] more) (parted_from r odd g more))
    go false e rest next = rest
    go true e rest next =
        let parts = stand_append r from to g more stand in
        let first = ap (is_plain odd) (first_of r from parts.0 waiting t [] parts.1) ∙ start in
        let last = and_first (is_plain odd (group_end g)) _ e in
        let mid = ap (is_plain odd) (sym (last_of r from parts.0 waiting t parts.1)) ∙ last in
        All-cons (ArePlain odd) g (parted_from r odd [] more) (first, last) (next parts.0 mid parts.2)

-- ---- the end of a bar

timed_sum : (bar : ScoreBar) (sounds : List Sound) → sum_by (λ (x : Timed). x.len) (map (timed bar) sounds) ≡ sum_by width_of sounds * bar.num
timed_sum bar [] = omega arith
timed_sum bar (s ∷ sounds) =
    let one = sum_by-cons (λ (x : Timed). x.len) (timed bar s) (map (timed bar) sounds) in
    let two = sum_by-cons width_of s sounds in
    omega (arith, one, ap (λ w. w * bar.num) two, timed_sum bar sounds)

pub end_is : (r : ℕ) (bar : ScoreBar) (sounds : List Sound) → sum (map width_of sounds) ≡ r → bar_end bar sounds ≡ r * bar.num
end_is r bar sounds full =
    sum-map (λ (x : Timed). x.len) (map (timed bar) sounds) ∙ timed_sum bar sounds ∙ ap (λ w. w * bar.num) (sym (sum-map width_of sounds) ∙ full)

end_plain : (r odd : ℕ) (bar : ScoreBar) (sounds : List Sound) → IsOddPart r odd → sum (map width_of sounds) ≡ r → is_plain odd
    (bar_end bar sounds * scale bar) ≡ true
end_plain r odd bar sounds part full =
    let whole = subst (λ x. r ∣ x) (sym (end_is r bar sounds full)) (dvd-mul_right r bar.num) in
    plain_at odd (bar_end bar sounds * scale bar) (dvd_trans odd (odd_divides r odd part)
    (dvd_trans r whole (dvd-mul_right (bar_end bar sounds) (scale bar))))

pub groups_plain : GroupsArePlain
groups_plain r odd bar after sounds vs some part h full values = go (are_silent ts)
  where
    ts : List Token
    ts = bar_tokens r odd bar after vs

    go : (b : Bool) → All (ArePlain odd) (cond b [] (parted r odd (joined_rests r bar ts)))
    go true = All-nil (ArePlain odd)
    go false =
        let to = bar_end bar sounds * scale bar in
        let stand = tokens_stand r odd bar after 0 (bar_end bar sounds) vs some h (bar_values_stand r bar sounds vs some h values) in
        let none : 0 ≡ 0 * scale bar = omega arith in
        let start = plain_at odd (0 * scale bar) (subst (λ x. odd ∣ x) none (dvd-zero odd)) in
        parted_plain r odd (0 * scale bar) to [] (joined_rests r bar ts) start (end_plain r odd bar sounds part full)
        (rests_stand r bar (0 * scale bar) to ts some h stand)
