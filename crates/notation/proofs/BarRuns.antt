-- The values of a bar stand side by side from its start to its end.
use Rattle.std.proofs.Common.{◌≡◌, ℕ, ◌+◌, ◌*◌, ◌/◌, ◌<◌, ◌≤◌, List, [], ◌∷◌, ◌++◌, Option, Some, None, length, map, sym, ap, ◌∙◌, subst, arith}
use Rattle.std.specs.Prelude.{All, sum, sum_by}
use Rattle.std.specs.Int.{◌∣◌}
use Rattle.std.proofs.Math.Nat.{div-mul_cancel, mul-div_cancel, mul-le-mul_right}
use Rattle.std.proofs.lemmas.List.{length-map}
use Rattle.std.proofs.lemmas.List.Elements.{All-cons, All-head, All-nil, All-tail}
use Rattle.std.proofs.lemmas.List.Sums.{sum-map, sum_by-cons}
use Rattle.std.proofs.lemmas.Option.{slice_get-get_or}
use Rattle.rhythm_base.specs.declared.sound.Sound.{Sound}
use Rattle.rhythm_base.specs.declared.sound.SoundKind.TheVariants.{Rest}
use Rattle.durations.specs.declared.joined.Timed.{Timed}
use Rattle.durations.specs.declared.joined.Written.{Written}
use Rattle.durations.specs.declared.value.Value.{Value}
use Rattle.durations.specs.Joined.{ArePlaced}
use Rattle.durations.specs.Value.{IsWide, parts, value_grid, width}
use Rattle.durations.proofs.Bars.{values_in, written_dots, written_fills, written_leaf}
use Rattle.durations.proofs.Beats.{beat_part, written_part}
use Rattle.derivation.specs.declared.score.ScoreBar.{ScoreBar}
use Rattle.derivation.specs.Score.{IsScoreBar}
use Rattle.voice_values.specs.Values.{AreBarValues, VoiceValue, is_first, timed, value_of_sound, values_of_sounds}
use Rattle.voice_values.proofs.TimedSounds.{some_whole, timed_bar, width_of}
use Rattle.notation.specs.Places.{whole_of}
use Rattle.notation.specs.Runs.{IsInBar}
use Rattle.notation.proofs.Values.{some_divisor}

-- values side by side from one place of a bar to another, in `whole` parts of a whole note
abbrev pub ValuesStand : ℕ → ℕ → ℕ → List VoiceValue → ℕ → Type 0
ValuesStand r whole from [] to = from ≡ to
ValuesStand r whole from (v ∷ vs) to =
    (v.place ≡ from) × IsWide whole v.value × (v.value.dots ≤ 2) × (value_grid v.value ∣ whole_of r) × ValuesStand r whole (from + width whole v.value) vs to

values_stand :
    (r whole from to : ℕ) (sounds : List Sound) (before : Option ℕ) (ws : List Written) → All (λ w. w.leaf < length sounds) ws → All (IsWide whole)
    (values_in ws) → All (λ v. v.dots ≤ 2) (values_in ws)
    → All (λ v. value_grid v ∣ whole_of r) (values_in ws) → ArePlaced whole from ws → from + sum_by (width whole) (values_in ws) ≡ to
    → ValuesStand r whole from (values_of_sounds sounds before ws) to
values_stand r whole from to sounds before [] leaves wide dots grid placed end = omega (arith, end)
values_stand r whole from to sounds before (w ∷ ws) leaves wide dots grid (at, next) end =
    let d : Sound = record { bar = 0; place = 0; width = 0; kind = Rest; keys = 0; graces = [] } in
    let read = slice_get-get_or sounds w.leaf d (All-head (λ w. w.leaf < length sounds) w ws leaves) in
    let rest = values_of_sounds sounds (Some w.leaf) ws in
    let e : from + width whole w.value + sum_by (width whole) (values_in ws) ≡ to = omega (arith, end, sum_by-cons (width whole) w.value (values_in ws)) in
    let more = values_stand r whole (from + width whole w.value) to sounds (Some w.leaf) ws (All-tail (λ w. w.leaf < length sounds) w ws leaves)
    (All-tail (IsWide whole) w.value (values_in ws) wide)
    (All-tail (λ v. v.dots ≤ 2) w.value (values_in ws) dots) (All-tail (λ v. value_grid v ∣ whole_of r) w.value (values_in ws) grid) next e in
    subst (λ o. ValuesStand r whole from (value_of_sound o (is_first before w.leaf) w ++ rest) to) (sym read) (
      at,
      All-head (IsWide whole) w.value (values_in ws) wide,
      All-head (λ v. v.dots ≤ 2) w.value (values_in ws) dots,
      All-head
          (λ v. value_grid v ∣ whole_of r) w.value (values_in ws) grid,
      more,
    )

-- the end of a bar, in parts of its places
abbrev pub bar_end : ScoreBar → List Sound → ℕ
bar_end bar sounds = sum (map (λ (x : Timed). x.len) (map (timed bar) sounds))

pub bar_values_stand : (r : ℕ) (bar : ScoreBar) (sounds : List Sound) (vs : List VoiceValue) → 1 ≤ r → IsScoreBar bar → AreBarValues r bar sounds vs
    → ValuesStand r (r * bar.den) 0 vs (bar_end bar sounds)
bar_values_stand r bar sounds vs some h (ws, written, is) =
    let whole = some_whole r bar some h in
    let leaves = map (timed bar) sounds in
    let fills = written_fills (r * bar.den) leaves ws whole written in
    let same : length leaves ≡ length sounds = length-map sounds (timed bar) in
    let own = subst (λ n. All (λ w. w.leaf < n) ws) same (written_leaf (r * bar.den) leaves ws written) in
    let end : 0 + sum_by (width (r * bar.den)) (values_in ws) ≡ bar_end bar sounds = omega
    (arith, fills.sum.sum, sum-map (width (r * bar.den)) (values_in ws)) in
    subst (λ us. ValuesStand r (r * bar.den) 0 us (bar_end bar sounds)) (sym is)
    (values_stand r (r * bar.den) 0 (bar_end bar sounds) sounds None ws own fills.sum.wide (written_dots (r * bar.den) leaves ws written)
    (written_part r bar.den leaves ws h.signature.power written) fills.places end)

-- ---- in parts of a whole note for each unit

-- so many parts has each unit of a place of a bar
abbrev pub scale : ScoreBar → ℕ
scale bar = 64 / bar.den

pub scaled : (r : ℕ) (bar : ScoreBar) → IsScoreBar bar → r * bar.den * scale bar ≡ whole_of r
scaled r bar h = turned r bar.den (scale bar) ∙ ap (λ x. r * x) (div-mul_cancel bar.den (beat_part bar.den h.signature.power)) ∙ omega arith
  where
    turned : (a b c : ℕ) → a * b * c ≡ a * (c * b)
    turned a b c = grind arith

-- a value is as many times wider
pub wide_scaled : (whole p all : ℕ) (v : Value) → 1 ≤ value_grid v → whole * p ≡ all → IsWide whole v → width all v ≡ width whole v * p
wide_scaled whole p all v some e wide =
    let w = width whole v in
    let n = value_grid v in
    let back : w * n ≡ parts v * whole = div-mul_cancel n wide in
    let long : parts v * all ≡ w * p * n = ap (λ x. parts v * x) (sym e) ∙ first (parts v) whole p ∙ ap (λ x. x * p) (sym back) ∙ last w n p in
    ap (λ x. x / n) long ∙ mul-div_cancel (w * p) some
  where
    first : (a b c : ℕ) → a * (b * c) ≡ a * b * c
    first a b c = grind arith

    last : (a b c : ℕ) → a * b * c ≡ a * c * b
    last a b c = grind arith

pub stand_within : (r whole from to : ℕ) (vs : List VoiceValue) → ValuesStand r whole from vs to → from ≤ to
stand_within r whole from to [] h = omega (arith, h)
stand_within r whole from to (v ∷ vs) h = let e = stand_within r whole (from + width whole v.value) to vs h.4 in omega (arith, e)

-- a bar is at most 64 whole notes long
pub bar_within : (r : ℕ) (bar : ScoreBar) (sounds : List Sound) → IsScoreBar bar → sum (map width_of sounds) ≡ r
    → bar_end bar sounds * scale bar ≤ 64 * whole_of r
bar_within r bar sounds h full =
    let few : bar_end bar sounds * scale bar ≤ 64 * (r * bar.den) * scale bar = mul-le-mul_right (scale bar) (timed_bar r bar sounds h full) in
    let e : 64 * (r * bar.den) * scale bar ≡ 64 * (r * bar.den * scale bar) = turned (r * bar.den) (scale bar) in
    let all = scaled r bar h in
    omega (arith, few, e, ap (λ x. 64 * x) all)
  where
    turned : (a b : ℕ) → 64 * a * b ≡ 64 * (a * b)
    turned a b = grind arith

-- the values of a bar are in it
pub stand_in_bar : (r : ℕ) (bar : ScoreBar) (from to : ℕ) (vs : List VoiceValue) → 1 ≤ r → IsScoreBar bar → to * scale bar ≤ 64 * whole_of r
    → ValuesStand r (r * bar.den) from vs to → All (IsInBar r bar) vs
stand_in_bar r bar from to [] some h few stand = All-nil (IsInBar r bar)
stand_in_bar r bar from to (v ∷ vs) some h few (at, wide, dots, grid, next) =
    let p = scale bar in
    let w = width (r * bar.den) v.value in
    let n = some_divisor (value_grid v.value) (whole_of r) (omega (arith, some)) grid in
    let long = wide_scaled (r * bar.den) p (whole_of r) v.value n (scaled r bar h) wide in
    let le : from + w ≤ to = stand_within r (r * bar.den) (from + w) to vs next in
    let more : (from + w) * p ≤ to * p = mul-le-mul_right p le in
    let e : (from + w) * p ≡ from * p + w * p = spread from w p in
    let place : v.place * p ≡ from * p = ap (λ x. x * p) at in
    All-cons (IsInBar r bar) v vs (record { dots = dots; grid = grid; end = omega (arith, long, more, e, place, few) })
    (stand_in_bar r bar (from + w) to vs some h few next)
  where
    spread : (a b c : ℕ) → (a + b) * c ≡ a * c + b * c
    spread a b c = omega arith
