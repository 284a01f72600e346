-- Bars of the signatures of a score: there are some, and the parts of their units are those of the score's bars.
use Rattle.std.proofs.Common.{◌≡◌, ℕ, suc, ◌+◌, ◌*◌, ◌/◌, ◌<◌, List, [], ◌∷◌, length, map, refl, ap, ◌∙◌, arith, Some}
use Rattle.std.specs.Prelude.{slice_get, unwrap_or}
use Rattle.std.specs.Option.{option_map}
use Rattle.std.proofs.lemmas.Option.{slice_get_within}
use Rattle.rhythm_base.specs.declared.note.Bar.{Bar}
use Rattle.durations.specs.Spans.{parts_of_unit}
use Rattle.derivation.proofs.FilledBars.{parts_at}
use Rattle.derivation.specs.declared.score.ScoreBar.{ScoreBar}
use Rattle.voice_events.specs.Events.{HaveSignatures}

-- a bar of the same signature
abbrev pub some_bar : ScoreBar → Bar
some_bar b = record { start = 0; num = b.num; den = b.den }

pub signatures_kept : (bars : List ScoreBar) → HaveSignatures bars (map some_bar bars)
signatures_kept [] = refl
signatures_kept (b ∷ bars) = ap (λ xs. signature b ∷ xs) (signatures_kept bars)
  where
    signature : ScoreBar → ℕ × ℕ
    signature b = (b.num, b.den)

-- the parts of the units of the bars from this number on are those of these
abbrev pub AreUnits : List Bar → ℕ → List ScoreBar → Type 0
AreUnits all n [] = Unit {0}
AreUnits all n (bar ∷ bars) = (n < length all) × (parts_at all n ≡ bar.num * (64 / bar.den)) × AreUnits all (suc n) bars

units_from : (all : List Bar) (n : ℕ) (sbars : List ScoreBar) (xs : List Bar) → ((k : ℕ) → slice_get all (n + k) ≡ slice_get xs k) → HaveSignatures sbars xs → AreUnits all n sbars
units_from all n [] xs same have = tt
units_from all n (bar ∷ sbars) [] same have = absurd (none have)
  where
    none : [] ≡ (bar.num, bar.den) ∷ map {B = ℕ × ℕ} (λ b. (b.num, b.den)) sbars → ⊥
    none e = cc
units_from all n (bar ∷ sbars) (x ∷ xs) same have =
    let first : ◌≡◌ {A = ℕ × ℕ} (x.num, x.den) (bar.num, bar.den) = cc in
    let others : HaveSignatures sbars xs = cc in
    let e : n ≡ n + 0 = omega arith in
    let here : slice_get all n ≡ Some x = ap (slice_get all) e ∙ same 0 in (
      slice_get_within all n x here,
      ap (λ o. unwrap_or (option_map parts_of_unit o) 0) here ∙ ap (λ p. p.0 * (64 / p.1)) first,
      units_from all (suc n) sbars xs (λ k. let e : suc n + k ≡ n + suc k = omega arith in ap (slice_get all) e ∙ same (suc k)) others,
    )

pub units_are : (all : List Bar) (sbars : List ScoreBar) → HaveSignatures sbars all → AreUnits all 0 sbars
units_are all sbars have = units_from all 0 sbars all (λ k. let e : 0 + k ≡ k = omega arith in ap (slice_get all) e) have
