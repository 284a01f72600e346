-- The bars of a score and bars of its signatures have the same parts.
use Rattle.std.proofs.Common.{◌≡◌, ℕ, zero, suc, ◌+◌, ◌*◌, ◌/◌, ◌<◌, ◌≤◌, List, [], ◌∷◌, length, refl, sym, ap, ap₂, ◌∙◌, subst, arith}
use Rattle.std.specs.Prelude.{All, IsTrue, sum_by}
use Rattle.std.proofs.Math.Nat.{div-mul_cancel, mul-le-mul}
use Rattle.std.proofs.lemmas.List.Elements.{All-cons, All-head, All-nil, All-tail}
use Rattle.std.proofs.lemmas.List.Sums.{sum_by-cons}
use Rattle.rhythm_base.specs.declared.note.Bar.{Bar}
use Rattle.rhythm_base.specs.Signatures.{IsSignature, is_den}
use Rattle.durations.proofs.Beats.{beat_part}
use Rattle.durations.specs.Spans.{parts_of_unit}
use Rattle.derivation.proofs.FilledBars.{parts_at}
use Rattle.derivation.specs.declared.score.ScoreBar.{ScoreBar}
use Rattle.derivation.specs.Score.{IsScoreBar}
use Rattle.voice_events.specs.Events.{HaveSignatures}
use Rattle.voice_events.specs.Parts.{score_bar_parts, score_parts}

pub none_left : {X : Type 0} (b : X) (bs : List X) → [] ≡ b ∷ bs → ⊥
none_left b bs e = cc

pub first_same : {X : Type 0} (b x : X) (bs xs : List X) → x ∷ xs ≡ b ∷ bs → (x ≡ b) × (xs ≡ bs)
first_same b x bs xs e = (cc, cc)

-- parts of 1/(resolution * den) of a whole note are so many of 64 * resolution, since a beat is a part of 64
pub parts_finer : (resolution den : ℕ) → IsTrue (is_den den) → resolution * den * (64 / den) ≡ 64 * resolution
parts_finer resolution den beat = let whole = div-mul_cancel den (beat_part den beat) in ring resolution den (64 / den) whole
  where
    ring : (r d k : ℕ) → k * d ≡ 64 → r * d * k ≡ 64 * r
    ring r d k e = turned r d k ∙ ap (λ x. x * r) e
      where
        turned : (r d k : ℕ) → r * d * k ≡ k * d * r
        turned r d k = grind arith

pub same_parts : (r : ℕ) (sbars : List ScoreBar) (bars : List Bar) → HaveSignatures sbars bars
    → r * sum_by parts_of_unit bars ≡ score_parts r sbars
same_parts r [] [] have = nothing r
  where
    nothing : (r : ℕ) → r * 0 ≡ 0
    nothing r = omega arith
same_parts r [] (bar ∷ bars) have = absurd (none_left _ _ (sym have))
same_parts r (sbar ∷ sbars) [] have = absurd (none_left _ _ have)
same_parts r (sbar ∷ sbars) (bar ∷ bars) have =
    let (one, others) = first_same _ _ _ _ have in
    let own : parts_of_unit bar ≡ sbar.num * (64 / sbar.den) = ap (λ p. p.0 * (64 / p.1)) one in
    ap (λ n. r * n) (sum_by-cons parts_of_unit bar bars) ∙ spread r (parts_of_unit bar) (sum_by parts_of_unit bars)
    ∙ ap₂ (λ a b. r * a + b) own (same_parts r sbars bars others) ∙ sym (sum_by-cons (score_bar_parts r) sbar sbars)
  where
    spread : (r a b : ℕ) → r * (a + b) ≡ r * a + r * b
    spread r a b = grind arith

pub well_signed : (sbars : List ScoreBar) (bars : List Bar) → HaveSignatures sbars bars → All IsScoreBar sbars
    → All (λ b. IsSignature b.num b.den) bars
well_signed [] [] have are = All-nil (λ b. IsSignature b.num b.den)
well_signed [] (bar ∷ bars) have are = absurd (none_left _ _ (sym have))
well_signed (sbar ∷ sbars) [] have are = All-nil (λ b. IsSignature b.num b.den)
well_signed (sbar ∷ sbars) (bar ∷ bars) have are =
    let (one, others) = first_same _ _ _ _ have in
    let own : IsSignature bar.num bar.den = subst (λ (p : ℕ × ℕ). IsSignature p.0 p.1) (sym one)
    (All-head IsScoreBar sbar sbars are).signature in
    All-cons (λ b. IsSignature b.num b.den) bar bars own (well_signed sbars bars others (All-tail IsScoreBar sbar sbars are))

pub same_count : (sbars : List ScoreBar) (bars : List Bar) → HaveSignatures sbars bars → length bars ≡ length sbars
same_count [] [] have = refl
same_count [] (bar ∷ bars) have = absurd (none_left _ _ (sym have))
same_count (sbar ∷ sbars) [] have = absurd (none_left _ _ have)
same_count (sbar ∷ sbars) (bar ∷ bars) have = ap suc (same_count sbars bars (first_same _ _ _ _ have).1)

-- a unit of each bar has some part
unit_some : (num den : ℕ) → IsSignature num den → 1 ≤ num * (64 / den)
unit_some num den is = grown num (64 / den) is.some (part_some (64 / den) (parts_finer 1 den is.power))
  where
    part_some : (k : ℕ) → 1 * den * k ≡ 64 * 1 → 1 ≤ k
    part_some zero e = absurd (omega (arith, e))
    part_some (suc k) e = omega arith

    grown : (a b : ℕ) → 1 ≤ a → 1 ≤ b → 1 ≤ a * b
    grown a b h k = mul-le-mul {n₁ = 1} {m₁ = 1} {n₂ = a} {m₂ = b} h k

pub some_parts : (bars : List Bar) (n : ℕ) → All (λ b. IsSignature b.num b.den) bars → n < length bars → 1 ≤ parts_at bars n
some_parts [] n are within = absurd (omega (arith, within))
some_parts (bar ∷ bars) zero are within = unit_some bar.num bar.den (All-head (λ b. IsSignature b.num b.den) bar bars are)
some_parts (bar ∷ bars) (suc n) are within = some_parts bars n (All-tail (λ b. IsSignature b.num b.den) bar bars are)
    (omega (arith, within))
