-- The tokens of the values of a bar stand side by side.
use Rattle.std.proofs.Common.{◌≡◌, ℕ, zero, suc, ◌+◌, ◌-◌, ◌*◌, ◌/◌, ◌^◌, ◌<◌, ◌≤◌, Bool, true, false, cond, List, [], ◌∷◌, ◌++◌, refl, sym, ap, ◌∙◌, subst, arith}
use Rattle.std.specs.Prelude.{◌&&◌, filter}
use Rattle.std.specs.Int.{◌∣◌}
use Rattle.std.proofs.Math.Nat.{div-mul_cancel, mul-div_cancel, mul-le-mul_left, mul-le-mul_right, pow-suc}
use Rattle.std.proofs.lemmas.Nat.{pow_pos}
use Rattle.durations.specs.declared.value.Recip.{Recip}
use Rattle.durations.specs.declared.value.Recip.TheVariants.{Of, Breve, Long}
use Rattle.durations.specs.declared.value.Value.{Value}
use Rattle.durations.specs.Value.{plain_grid, plain_parts, value_grid, width}
use Rattle.durations.proofs.Wide.{some_parts, some_product}
use Rattle.derivation.specs.declared.score.ScoreBar.{ScoreBar}
use Rattle.derivation.specs.Score.{IsScoreBar}
use Rattle.voice_values.specs.GoesOn.{next_in_column}
use Rattle.voice_values.specs.Values.{VoiceValue}
use Rattle.notation.specs.Places.{is_plain, whole_of}
use Rattle.notation.specs.Runs.{StandBetween}
use Rattle.notation.specs.Tokens.{Token, bar_tokens, cut_token, cuts, first_part, part_ends, value_token, value_tokens}
use Rattle.notation.proofs.BarRuns.{ValuesStand, scale, scaled, wide_scaled}
use Rattle.notation.proofs.CutTokens.{on_from}
use Rattle.notation.proofs.Values.{some_divisor}

pub stand_both : (r from mid to : ℕ) (xs ys : List Token) → StandBetween r from xs mid → StandBetween r mid ys to → StandBetween r from (xs ++ ys) to
stand_both r from mid to [] ys h k = subst (λ x. StandBetween r x ys to) (sym h) k
stand_both r from mid to (x ∷ xs) ys h k = (h.0, h.1, h.2, stand_both r x.end mid to xs ys h.3 k)

-- ---- places that rise between two others

abbrev Between : ℕ → List ℕ → ℕ → Type 0
Between from [] to = from < to
Between from (p ∷ ps) to = (from < p) × Between p ps to

between_lt : (from to : ℕ) (ps : List ℕ) → Between from ps to → from < to
between_lt from to [] h = h
between_lt from to (p ∷ ps) h = let e = between_lt p to ps h.1 in omega (arith, h.0, e)

between_from : (from mid to : ℕ) (ps : List ℕ) → from < mid → Between mid ps to → Between from ps to
between_from from mid to [] lt h = omega (arith, lt, h)
between_from from mid to (p ∷ ps) lt h = (omega (arith, lt, h.0), h.1)

between_filter : (test : ℕ → Bool) (from to : ℕ) (ps : List ℕ) → Between from ps to → Between from (filter test ps) to
between_filter test from to [] h = h
between_filter test from to (p ∷ ps) h = go (test p) (between_filter test p to ps h.1)
  where
    go : (b : Bool) → Between p (filter test ps) to → Between from (cond b (p ∷ filter test ps) (filter test ps)) to
    go true k = (h.0, k)
    go false k = between_from from p to (filter test ps) h.0 k

-- a token cut at such places
cut_stand : (r : ℕ) (ps : List ℕ) (t : Token) → Between t.start ps t.end → t.end ≤ t.start + 8 * whole_of r → StandBetween r t.start (cut_token ps t) t.end
cut_stand r [] t h few = (refl, h, few, refl)
cut_stand r (p ∷ ps) t h few =
    let lt = between_lt p t.end ps h.1 in
    (refl, h.0, omega (arith, few, lt), cut_stand r ps (on_from p t) h.1 (omega (arith, few, h.0)))

-- ---- the parts of a value with dots

-- parts of q, each half of the one before, of which the last is q
parts_between : (dots q start to : ℕ) → 1 ≤ q → to ≡ start + q * (2 * 2 ^ dots - 1) → Between start (part_ends dots start (q * 2 ^ dots)) to
parts_between zero q start to some e = omega (arith, e, some)
parts_between (suc dots) q start to some e =
    let p = pow_pos dots in
    let power : 2 ^ suc dots ≡ 2 ^ dots * 2 = pow-suc 2 dots in
    let long : q * 2 ^ suc dots ≡ q * 2 ^ dots * 2 = ap (λ x. q * x) power ∙ turned q (2 ^ dots) in
    let first : 1 ≤ q * 2 ^ dots = some_product q (2 ^ dots) some (omega (arith, p)) in
    let half : q * 2 ^ suc dots / 2 ≡ q * 2 ^ dots = omega (arith, long) in
    let left : 2 * 2 ^ suc dots - 1 ≡ 2 ^ suc dots + (2 * 2 ^ dots - 1) = omega (arith, power, p) in
    let end : to ≡ start + q * 2 ^ suc dots + q * (2 * 2 ^ dots - 1) = omega (arith, e, ap (λ x. q * x) left, spread q (2 ^ suc dots) (2 * 2 ^ dots - 1)) in
    let rest = parts_between dots q (start + q * 2 ^ suc dots) to some end in
    (omega (arith, long, first), subst (λ x. Between (start + q * 2 ^ suc dots) (part_ends dots (start + q * 2 ^ suc dots) x) to) (sym half) rest)
  where
    turned : (a b : ℕ) → a * (b * 2) ≡ a * b * 2
    turned a b = grind arith

    spread : (a b c : ℕ) → a * (b + c) ≡ a * b + a * c
    spread a b c = grind arith

plain_few : (x : Recip) → plain_parts x ≤ 4
plain_few (Of n) = omega arith
plain_few Breve = omega arith
plain_few Long = omega arith

-- a value that counts in the parts of a whole note, by its last part
record IsDotted (r : ℕ) (v : Value) : Type 0 where
  last : ℕ
  some : 1 ≤ last
  first : first_part r v ≡ last * 2 ^ v.dots
  all : width (whole_of r) v ≡ last * (2 * 2 ^ v.dots - 1)
  few : last * (2 * 2 ^ v.dots - 1) ≤ 8 * whole_of r

dotted : (r : ℕ) (v : Value) → 1 ≤ r → value_grid v ∣ whole_of r → IsDotted r v
dotted r v some grid =
    let w = whole_of r in
    let n = plain_grid v.recip in
    let m = plain_parts v.recip in
    let p = 2 ^ v.dots in
    let pos = pow_pos v.dots in
    let one = some_divisor (value_grid v) w (omega (arith, some)) grid in
    let u = w / value_grid v in
    let whole : u * (n * p) ≡ w = div-mul_cancel (value_grid v) grid in
    let u_some : 1 ≤ u = factor u (n * p) (omega (arith, whole, some)) in
    let n_some : 1 ≤ n = factor n p one in
    let q_some = some_product m u (some_parts v.recip) u_some in
    let first : first_part r v ≡ m * u * p =
    ap (λ x. m * (2 * 1 - 1) * x / (n * 1)) (sym whole) ∙ ap (λ x. x / (n * 1)) (turned m u n p) ∙ ap (λ x. m * u * p * n / x) (omega arith)
    ∙ mul-div_cancel (m * u * p) n_some in
    let all : width w v ≡ m * u * (2 * p - 1) =
    ap (λ x. m * (2 * p - 1) * x / (n * p)) (sym whole) ∙ ap (λ x. x / (n * p)) (moved m (2 * p - 1) u (n * p)) ∙ mul-div_cancel (m * u * (2 * p - 1)) one in
    let le_one : m * u * (2 * p - 1) ≤ m * u * (2 * p) = mul-le-mul_left (m * u) (omega arith) in
    let le_two : m * (u * (2 * p)) ≤ 4 * (u * (2 * p)) = mul-le-mul_right (u * (2 * p)) (plain_few v.recip) in
    let le_three : u * p * 1 ≤ u * p * n = mul-le-mul_left (u * p) n_some in
    let few : m * u * (2 * p - 1) ≤ 8 * w = omega (arith, le_one, le_two, le_three, regroup m u p, double u p, unit (u * p), whole, third u p n) in
    record { last = m * u; some = q_some; first = first; all = all; few = few }
  where
    factor : (a b : ℕ) → 1 ≤ a * b → 1 ≤ a
    factor zero b h = omega (arith, h)
    factor (suc a) b h = omega arith

    turned : (m u n p : ℕ) → m * (2 * 1 - 1) * (u * (n * p)) ≡ m * u * p * n
    turned m u n p = grind arith

    moved : (m k u g : ℕ) → m * k * (u * g) ≡ m * u * k * g
    moved m k u g = grind arith

    regroup : (m u p : ℕ) → m * u * (2 * p) ≡ m * (u * (2 * p))
    regroup m u p = grind arith

    double : (u p : ℕ) → 4 * (u * (2 * p)) ≡ 8 * (u * p)
    double u p = grind arith

    unit : (x : ℕ) → x * 1 ≡ x
    unit x = omega arith

    third : (u p n : ℕ) → u * p * n ≡ u * (n * p)
    third u p n = grind arith

-- ---- the tokens of a value, and of a bar

value_stands : (r odd : ℕ) (v : Value) (t : Token) → 1 ≤ r → value_grid v ∣ whole_of r → t.end ≡ t.start + width (whole_of r) v → StandBetween r t.start
    (cut_token (cuts r odd v t) t) t.end
value_stands r odd v t some grid end =
    let d = dotted r v some grid in
    let all : t.end ≡ t.start + d.last * (2 * 2 ^ v.dots - 1) = omega (arith, end, d.all) in
    let between = parts_between v.dots d.last t.start t.end d.some all in
    let own = subst (λ x. Between t.start (part_ends v.dots t.start x) t.end) (sym d.first) between in
    cut_stand r (cuts r odd v t) t (go (is_plain odd t.start && is_plain odd t.end) own) (omega (arith, all, d.few))
  where
    go : (b : Bool) → Between t.start (part_ends v.dots t.start (first_part r v)) t.end → Between t.start
        (cond b [] (filter (is_plain odd) (part_ends v.dots t.start (first_part r v)))) t.end
    go true h = between_lt t.start t.end (part_ends v.dots t.start (first_part r v)) h
    go false h = between_filter (is_plain odd) t.start t.end (part_ends v.dots t.start (first_part r v)) h

pub tokens_stand :
    (r odd : ℕ) (bar : ScoreBar) (after : Bool) (from to : ℕ) (vs : List VoiceValue) → 1 ≤ r → IsScoreBar bar → ValuesStand r (r * bar.den) from vs to
    → StandBetween r (from * scale bar) (bar_tokens r odd bar after vs) (to * scale bar)
tokens_stand r odd bar after from to [] some h stand = ap (λ x. x * scale bar) stand
tokens_stand r odd bar after from to (v ∷ vs) some h (at, wide, dots, grid, next) =
    let p = scale bar in
    let w = width (r * bar.den) v.value in
    let n = some_divisor (value_grid v.value) (whole_of r) (omega (arith, some)) grid in
    let long = wide_scaled (r * bar.den) p (whole_of r) v.value n (scaled r bar h) wide in
    let t = value_token r bar (next_in_column after vs) v in
    let here = value_stands r odd v.value t some grid refl in
    let start : v.place * p ≡ from * p = ap (λ x. x * p) at in
    let end : v.place * p + width (whole_of r) v.value ≡ (from + w) * p = omega (arith, start, long, spread from w p) in
    let own = subst (λ x. StandBetween r x (value_tokens r odd bar (next_in_column after vs) v) ((from + w) * p)) start
    (subst (StandBetween r (v.place * p) (value_tokens r odd bar (next_in_column after vs) v)) end here) in
    stand_both r (from * p) ((from + w) * p) (to * p) (value_tokens r odd bar (next_in_column after vs) v) (bar_tokens r odd bar after vs) own
    (tokens_stand r odd bar after (from + w) to vs some h next)
  where
    spread : (a b c : ℕ) → (a + b) * c ≡ a * c + b * c
    spread a b c = omega arith
