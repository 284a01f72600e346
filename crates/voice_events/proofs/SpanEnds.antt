-- Spans that follow one another end by the last barline, and a score is no longer than its bars can be.
use Rattle.rhythm_base.specs.declared.limits.TheConstants.{MOST_UNITS}
use Rattle.std.proofs.Common.{ℕ, ◌*◌, ◌/◌, ◌≤◌, List, [], ◌∷◌, length, arith}
use Rattle.std.specs.Prelude.{All}
use Rattle.std.proofs.Math.Nat.{div-le_self, mul-le-mul}
use Rattle.std.proofs.lemmas.List.Elements.{All-cons, All-nil, All-weaker}
use Rattle.std.proofs.lemmas.List.Sums.{sum_by-le}
use Rattle.rhythm_base.specs.declared.span.Span.{Span}
use Rattle.derivation.specs.declared.score.ScoreBar.{ScoreBar}
use Rattle.derivation.specs.Score.{IsScoreBar}
use Rattle.voice_events.specs.Parts.{score_bar_parts, end_parts, score_parts}
use Rattle.voice_events.specs.VoiceEvents.{FollowFrom}

-- what follows from a place on does not begin before it
pub from_within : (resolution end from : ℕ) (spans : List Span) → FollowFrom resolution end from spans → from ≤ end
from_within resolution end from [] follow = follow
from_within resolution end from (x ∷ spans) (first, follow) =
    let rest = from_within resolution end (end_parts resolution x) spans follow in
    omega (arith, first, rest)

pub ends_within : (resolution end from : ℕ) (spans : List Span) → FollowFrom resolution end from spans
    → All (λ x. end_parts resolution x ≤ end) spans
ends_within resolution end from [] follow = All-nil (λ x. end_parts resolution x ≤ end)
ends_within resolution end from (x ∷ spans) (first, follow) =
    All-cons (λ x. end_parts resolution x ≤ end) x spans (from_within resolution end (end_parts resolution x) spans follow)
    (ends_within resolution end (end_parts resolution x) spans follow)

-- a bar has at most 64 * 64 parts for each unit
pub bar_few : (resolution : ℕ) (bar : ScoreBar) → resolution ≤ MOST_UNITS → IsScoreBar bar → score_bar_parts resolution bar ≤ 3932160
bar_few resolution bar units is =
    let unit : bar.num * (64 / bar.den) ≤ 4096 = mul-le-mul {n₁ = bar.num} {m₁ = 64 / bar.den} {n₂ = 64} {m₂ = 64} is.signature.few
    (div-le_self 64 bar.den) in
    mul-le-mul {n₁ = resolution} {m₁ = bar.num * (64 / bar.den)} {n₂ = 960} {m₂ = 4096} units unit

pub score_few : (resolution : ℕ) (bars : List ScoreBar) → resolution ≤ MOST_UNITS → All IsScoreBar bars
    → score_parts resolution bars ≤ length bars * 3932160
score_few resolution bars units are =
    sum_by-le (score_bar_parts resolution) 3932160 bars (All-weaker IsScoreBar (λ bar. score_bar_parts resolution bar ≤ 3932160)
    (λ bar is. bar_few resolution bar units is) bars are)
