-- The sounds that fill a bar as long as they are written.
use Rattle.std.proofs.Common.{◌≡◌, ℕ, ◌+◌, ◌*◌, ◌≤◌, List, [], ◌∷◌, map, get_or, ap, ◌∙◌, arith}
use Rattle.std.specs.Prelude.{All, sum, sum_by}
use Rattle.std.proofs.Math.Nat.{mul-le-mul_left}
use Rattle.std.proofs.lemmas.List.Elements.{All-map}
use Rattle.std.proofs.lemmas.List.Sums.{get_or-le-sum_by, sum-map, sum_by-cons}
use Rattle.rhythm_base.specs.declared.sound.Sound.{Sound}
use Rattle.rhythm_base.proofs.Beats.{some_beat}
use Rattle.durations.specs.declared.joined.Timed.{Timed}
use Rattle.durations.specs.Joined.{IsTimedLeaf}
use Rattle.derivation.specs.declared.score.ScoreBar.{ScoreBar}
use Rattle.derivation.specs.Score.{IsScoreBar}
use Rattle.voice_values.specs.Values.{timed}

abbrev pub width_of : Sound → ℕ
width_of s = s.width

abbrev length_of : Timed → ℕ
length_of x = x.len

pub some_whole : (r : ℕ) (bar : ScoreBar) → 1 ≤ r → IsScoreBar bar → 1 ≤ r * bar.den
some_whole r bar some h = let e = mul-le-mul_left r (some_beat bar.den h.signature.power) in omega (arith, e, some)

-- so many units of a bar are at most 64 whole notes, where a bar has r
pub units_within : (r w : ℕ) (bar : ScoreBar) → w ≤ r → IsScoreBar bar → w * bar.num ≤ 64 * (r * bar.den)
units_within r w bar le h =
    let few : w * bar.num ≤ w * 64 = mul-le-mul_left w h.signature.few in
    let beat : r * 1 ≤ r * bar.den = mul-le-mul_left r (some_beat bar.den h.signature.power) in
    omega (arith, few, beat, le)

timed_leaf : (r : ℕ) (bar : ScoreBar) (s : Sound) → IsScoreBar bar → 1 ≤ s.width → s.width ≤ r → IsTimedLeaf (r * bar.den) (timed bar s)
timed_leaf r bar s h some le = record {
  some = let e : s.width * 1 ≤ s.width * bar.num = mul-le-mul_left s.width h.signature.some in omega (arith, e, some);
  few = units_within r s.width bar le h;
}

pub timed_leaves : (r : ℕ) (bar : ScoreBar) (sounds : List Sound) → IsScoreBar bar → All (λ s. 1 ≤ s.width) sounds → sum (map width_of sounds) ≡ r → All (IsTimedLeaf (r * bar.den)) (map (timed bar) sounds)
timed_leaves r bar sounds h some full =
    All-map (IsTimedLeaf (r * bar.den)) (timed bar) sounds
    (λ k d lt. timed_leaf r bar (get_or sounds k d) h (some k d lt) (let e = get_or-le-sum_by width_of sounds k d lt in omega (arith, e, sum-map width_of sounds, full)))

spread : (a b n : ℕ) → (a + b) * n ≡ a * n + b * n
spread a b n = omega arith

timed_sum : (bar : ScoreBar) (sounds : List Sound) → sum_by length_of (map (timed bar) sounds) ≡ sum_by width_of sounds * bar.num
timed_sum bar [] = omega arith
timed_sum bar (s ∷ sounds) =
    let one = sum_by-cons length_of (timed bar s) (map (timed bar) sounds) in
    let two = sum_by-cons width_of s sounds in
    let all : sum_by width_of (s ∷ sounds) * bar.num ≡ s.width * bar.num + sum_by width_of sounds * bar.num = ap (λ w. w * bar.num) two ∙ spread s.width (sum_by width_of sounds) bar.num in
    omega (arith, one, all, timed_sum bar sounds)

pub timed_bar : (r : ℕ) (bar : ScoreBar) (sounds : List Sound) → IsScoreBar bar → sum (map width_of sounds) ≡ r → sum (map length_of (map (timed bar) sounds)) ≤ 64 * (r * bar.den)
timed_bar r bar sounds h full =
    let width : sum_by width_of sounds ≤ r = omega (arith, sum-map width_of sounds, full) in
    let all = units_within r (sum_by width_of sounds) bar width h in
    omega (arith, sum-map length_of (map (timed bar) sounds), timed_sum bar sounds, all)
