-- The tokens of values, one value after another, and one part of a value after another.
use Rattle.std.proofs.Common.{◌≡◌, ℕ, suc, ◌+◌, ◌-◌, ◌/◌, Bool, true, false, cond, ◌&&◌, List, [], ◌∷◌, ◌++◌, append_assoc, refl, sym, ap, ◌∙◌, arith}
use Rattle.std.specs.Prelude.{filter}
use Rattle.derivation.specs.declared.score.ScoreBar.{ScoreBar}
use Rattle.durations.specs.declared.value.Value.{Value}
use Rattle.voice_values.specs.GoesOn.{next_in_column}
use Rattle.voice_values.specs.Values.{VoiceValue}
use Rattle.notation.specs.Places.{is_plain}
use Rattle.notation.specs.Tokens.{Token, bar_tokens, cut_token, cuts, first_part, part_ends, value_token}

-- up to a place, with a tie over it, and from there on
abbrev pub up_to : ℕ → Token → Token
up_to place t = record t { end = place; goes = true }

abbrev pub on_from : ℕ → Token → Token
on_from place t = record t { start = place; graces = []; short = false; comes = true }

-- ---- the parts of one value

-- no part is passed
pub cut_start :
    (r odd dots place part : ℕ) (v : Value) (t : Token) → dots ≡ cond (is_plain odd t.start && is_plain odd t.end) 0 v.dots → place ≡ t.start
    → part ≡ first_part r v
    → filter (is_plain odd) (part_ends (dots - 0) place part) ≡ cuts r odd v t
cut_start r odd dots place part v t loose at first =
    let n : dots - 0 ≡ dots = omega arith in
    ap (λ k. filter (is_plain odd) (part_ends k place part)) (n ∙ loose) ∙ ap
    (λ p. filter (is_plain odd) (part_ends (cond (is_plain odd t.start && is_plain odd t.end) 0 v.dots) p part)) at
    ∙ ap (λ q. filter (is_plain odd) (part_ends (cond (is_plain odd t.start && is_plain odd t.end) 0 v.dots) t.start q)) first ∙ go
    (is_plain odd t.start && is_plain odd t.end)
  where
    go : (b : Bool) → filter (is_plain odd) (part_ends (cond b 0 v.dots) t.start (first_part r v)) ≡ cond b []
        (filter (is_plain odd) (part_ends v.dots t.start (first_part r v)))
    go true = refl
    go false = refl

-- one more part, which is cut off
pub part_cut :
    (odd place part left next : ℕ) (t rest : Token) (done new all : List Token) → left ≡ suc next → is_plain odd (place + part) ≡ true
    → new ≡ done ++ up_to (place + part) t ∷ [] → rest ≡ on_from (place + part) t
    → done ++ cut_token (filter (is_plain odd) (part_ends left place part)) t ≡ all
    → new ++ cut_token (filter (is_plain odd) (part_ends next (place + part) (part / 2))) rest ≡ all
part_cut odd place part left next t rest done new all some plain is off h =
    let places = filter (is_plain odd) (part_ends next (place + part) (part / 2)) in
    ap (λ u. new ++ cut_token places u) off ∙ ap (λ xs. xs ++ cut_token places (on_from (place + part) t)) is
    ∙ append_assoc done (up_to (place + part) t ∷ []) (cut_token places (on_from (place + part) t))
    ∙ ap (λ b. done ++ cut_token (cond b ((place + part) ∷ places) places) t) (sym plain)
    ∙ ap (λ k. done ++ cut_token (filter (is_plain odd) (part_ends k place part)) t) (sym some) ∙ h

-- one more part, which is not
pub part_kept :
    (odd place part left next : ℕ) (t rest : Token) (done new all : List Token) → left ≡ suc next → is_plain odd (place + part) ≡ false
    → new ≡ done → rest ≡ t → done ++ cut_token (filter (is_plain odd) (part_ends left place part)) t ≡ all
    → new ++ cut_token (filter (is_plain odd) (part_ends next (place + part) (part / 2))) rest ≡ all
part_kept odd place part left next t rest done new all some plain is same h =
    let places = filter (is_plain odd) (part_ends next (place + part) (part / 2)) in
    (λ i. is i ++ cut_token places (same i)) ∙ ap (λ b. done ++ cut_token (cond b ((place + part) ∷ places) places) t) (sym plain)
    ∙ ap (λ k. done ++ cut_token (filter (is_plain odd) (part_ends k place part)) t) (sym some) ∙ h

-- no part is left but the last
pub cut_end : (odd place part left : ℕ) (t : Token) (done new all : List Token) → left ≡ 0 → new ≡ done ++ t ∷ [] → done ++ cut_token
    (filter (is_plain odd) (part_ends left place part)) t ≡ all → new ≡ all
cut_end odd place part left t done new all none is h = is ∙ ap (λ k. done ++ cut_token (filter (is_plain odd) (part_ends k place part)) t) (sym none) ∙ h

-- the tokens of one more value
pub value_step :
    (r odd : ℕ) (bar : ScoreBar) (after goes : Bool) (later more : List VoiceValue) (v : VoiceValue) (w : Value) (t : Token) (done new all : List Token)
    → later ≡ v ∷ more → goes ≡ next_in_column after more → t ≡ value_token r bar goes v → w ≡ v.value → new ≡ done ++ cut_token (cuts r odd w t) t
    → done ++ bar_tokens r odd bar after later ≡ all → new ++ bar_tokens r odd bar after more ≡ all
value_step r odd bar after goes later more v w t done new all split next is same own h =
    let token = is ∙ ap (λ b. value_token r bar b v) next in
    let last = value_token r bar (next_in_column after more) v in
    ap (λ xs. xs ++ bar_tokens r odd bar after more) (own ∙ ap (λ x. done ++ cut_token (cuts r odd x t) t) same ∙ ap
    (λ u. done ++ cut_token (cuts r odd v.value u) u) token)
    ∙ append_assoc done (cut_token (cuts r odd v.value last) last) (bar_tokens r odd bar after more)
    ∙ ap (λ vs. done ++ bar_tokens r odd bar after vs) (sym split) ∙ h
