-- Well-sounded sounds fill their bars, and how far they have come.
use Rattle.rhythm_base.specs.declared.limits.TheConstants.{MOST_BARS, MOST_UNITS}
use Rattle.std.proofs.Common.{◌≡◌, ℕ, zero, suc, ◌+◌, ◌*◌, ◌/◌, ◌<◌, ◌≤◌, ◌==◌, Bool, true, false, List, [], ◌∷◌, length, take, refl, sym, ap, ap₂, ◌∙◌, subst, arith, take_all}
use Rattle.std.specs.Prelude.{All, sum_by, slice_get, unwrap_or, if◌then◌else◌}
use Rattle.std.specs.Option.{option_map}
use Rattle.std.proofs.Math.Nat.{div-le_self, mul-le-mul}
use Rattle.std.proofs.lemmas.Bool.Decides.{nat_tests}
use Rattle.std.proofs.lemmas.List.Sums.{sum_by-cons, sum_by-le}
use Rattle.std.proofs.lemmas.List.Elements.{All-weaker}
use Rattle.rhythm_base.specs.declared.note.Bar.{Bar}
use Rattle.rhythm_base.specs.declared.sound.Sound.{Sound}
use Rattle.rhythm_base.specs.Signatures.{IsSignature}
use Rattle.durations.specs.Spans.{parts_of_unit, sound_length}
use Rattle.derivation.specs.Laws.{WellSoundedFillTheScore}
use Rattle.derivation.specs.WellSounded.{StandInBars}

-- the parts of a unit of bar n
abbrev pub parts_at : List Bar → ℕ → ℕ
parts_at bars n = unwrap_or (option_map parts_of_unit (slice_get bars n)) 0

-- the parts before unit p of bar n
abbrev pub place_at : ℕ → List Bar → ℕ → ℕ → ℕ
place_at r bars n p = r * sum_by parts_of_unit (take n bars) + p * parts_at bars n

sum_next : (bars : List Bar) (n : ℕ) → n < length bars → sum_by parts_of_unit (take (suc n) bars) ≡ sum_by parts_of_unit (take n bars) + parts_at bars n
sum_next [] n within = absurd (omega (arith, within))
sum_next (b ∷ bars) zero within = sum_by-cons parts_of_unit b (take 0 bars) ∙ omega arith
sum_next (b ∷ bars) (suc n) within =
    sum_by-cons parts_of_unit b (take (suc n) bars) ∙ ap (λ k. parts_of_unit b + k) (sum_next bars n (omega (arith, within)))
    ∙ apart (parts_of_unit b) (sum_by parts_of_unit (take n bars)) (parts_at bars n) ∙ sym (ap (λ k. k + parts_at bars n) (sum_by-cons parts_of_unit b (take n bars)))
  where
    apart : (a b c : ℕ) → a + (b + c) ≡ a + b + c
    apart a b c = omega arith

-- after a sound of w units
pub place_next : (r : ℕ) (bars : List Bar) (n p w : ℕ) → n < length bars
    → place_at r bars n p + w * parts_at bars n ≡ place_at r bars (if p + w == r then suc n else n) (if p + w == r then 0 else p + w)
place_next r bars n p w within = go (p + w == r) refl
  where
    go : (b : Bool) → p + w == r ≡ b → place_at r bars n p + w * parts_at bars n ≡ place_at r bars (if b then suc n else n) (if b then 0 else p + w)
    go true is =
        let whole : p + w ≡ r = grind (arith, nat_tests, is) in
        ring p w r (sum_by parts_of_unit (take n bars)) (parts_at bars n) (parts_at bars (suc n)) whole
        ∙ ap (λ k. r * k + 0 * parts_at bars (suc n)) (sym (sum_next bars n within))
      where
        ring : (p w r s q z : ℕ) → p + w ≡ r → r * s + p * q + w * q ≡ r * (s + q) + 0 * z
        ring p w r s q z e = let plain : (p + w) * s + p * q + w * q ≡ (p + w) * (s + q) + 0 * z = grind arith in subst (λ r. r * s + p * q + w * q ≡ r * (s + q) + 0 * z) e plain
    go false is = grind arith

-- what is before, and the sounds from there on, are all bars
pub filled : (r : ℕ) (bars : List Bar) (n p : ℕ) (sounds : List Sound) → StandInBars r (length bars) n p sounds
    → place_at r bars n p + sum_by (sound_length bars) sounds ≡ r * sum_by parts_of_unit bars
filled r bars n p [] stand =
    let all : take n bars ≡ bars = take_all n bars (omega (arith, stand.0)) in
    let plain : r * sum_by parts_of_unit bars + 0 * parts_at bars n + 0 ≡ r * sum_by parts_of_unit bars = grind arith in
    ap₂ (λ k l. r * sum_by parts_of_unit l + k * parts_at bars n + 0) stand.1 all ∙ plain
filled r bars n p (s ∷ sounds) (within, bar, place, wide, whole, stand) =
    let first = sum_by-cons (sound_length bars) s sounds in
    let own : s.width * parts_at bars s.bar ≡ s.width * parts_at bars n = ap (λ k. s.width * parts_at bars k) bar in
    let next = place_next r bars n p s.width within in
    let others = filled r bars (if p + s.width == r then suc n else n) (if p + s.width == r then 0 else p + s.width) sounds stand in
    add_up (place_at r bars n p) (s.width * parts_at bars s.bar) (s.width * parts_at bars n) (sum_by (sound_length bars) (s ∷ sounds)) (sum_by (sound_length bars) sounds) _ _ first own next others
  where
    add_up : (a b c d e f g : ℕ) → d ≡ b + e → b ≡ c → a + c ≡ f → f + e ≡ g → a + d ≡ g
    add_up a b c d e f g h i j k = omega (arith, h, i, j, k)

-- a unit has at most 64 times 64 parts
pub unit_small : (b : Bar) → IsSignature b.num b.den → parts_of_unit b ≤ 4096
unit_small b h = mul-le-mul {n₁ = b.num} {m₁ = 64 / b.den} {n₂ = 64} {m₂ = 64} h.few (div-le_self 64 b.den)

-- all bars together have few parts
pub few_parts : (r : ℕ) (bars : List Bar) → r ≤ MOST_UNITS → length bars ≤ MOST_BARS → All (λ b. IsSignature b.num b.den) bars → r * sum_by parts_of_unit bars ≤ 16106127360
few_parts r bars units count signatures =
    let each = All-weaker _ (λ (b : Bar). parts_of_unit b ≤ 4096) (λ b h. unit_small b h) bars signatures in
    let sum = sum_by-le parts_of_unit 4096 bars each in
    mul-le-mul {n₁ = r} {m₁ = sum_by parts_of_unit bars} {n₂ = 960} {m₂ = 16777216} units (omega (arith, sum, count))

pub score_filled : WellSoundedFillTheScore
score_filled r bars sounds sounded =
    let nothing : place_at r bars 0 0 ≡ 0 = none r (parts_at bars 0) in
    let all = filled r bars 0 0 sounds sounded.places in
    omega (arith, all, nothing)
  where
    none : (r q : ℕ) → r * 0 + 0 * q ≡ 0
    none r q = grind arith
