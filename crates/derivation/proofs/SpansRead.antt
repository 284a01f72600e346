-- Spans read along the sounds of a voice, one sound more.
use Rattle.rhythm_base.specs.declared.limits.TheConstants.{MOST_BARS, MOST_UNITS}
use Rattle.std.proofs.Common.{◌≡◌, ℕ, suc, ◌+◌, ◌*◌, ◌<◌, ◌≤◌, true, cond, List, [], ◌∷◌, ◌++◌, length, get_or, drop, refl, sym, ap, ap₂, ◌∙◌, subst, arith, add-one, append-nil, append_assoc, drop-cons}
use Rattle.std.specs.List.{prefix_len}
use Rattle.std.specs.Prelude.{◌==◌, All, sum_by, take_while, if◌then◌else◌}
use Rattle.std.proofs.lemmas.List.Sums.{sum_by-cons, sum_by-take-le, take_while-cons}
use Rattle.rhythm_base.specs.declared.note.Bar.{Bar}
use Rattle.rhythm_base.specs.declared.sound.Sound.{Sound}
use Rattle.rhythm_base.specs.declared.span.Frac.{Frac}
use Rattle.rhythm_base.specs.declared.span.Span.{Span}
use Rattle.rhythm_base.specs.Lists.{Each}
use Rattle.rhythm_base.specs.Signatures.{IsSignature}
use Rattle.durations.specs.Spans.{AreSpans, IsFrac, IsSpan, chord_runs, place_of, sound_length}
use Rattle.rhythm_base.specs.SoundKinds.{begins_chord, is_short, is_tie}
use Rattle.derivation.proofs.FilledBars.{few_parts, filled, parts_at, place_at, place_next}
use Rattle.derivation.specs.WellSounded.{StandInBars}

abbrev pub ties_of : List Sound → List Sound
ties_of sounds = take_while (λ t. is_tie t.kind) sounds

module _ (bars : List Bar) where
  ties_more : (s : Sound) (sounds : List Sound) → is_tie s.kind ≡ true → sum_by (sound_length bars) (ties_of (s ∷ sounds)) ≡ sound_length bars s + sum_by (sound_length bars) (ties_of sounds)
  ties_more s sounds tie =
      ap (sum_by (sound_length bars)) (take_while-cons (λ t. is_tie t.kind) s sounds ∙ ap (λ b. cond b (s ∷ ties_of sounds) []) tie)
      ∙ sum_by-cons (sound_length bars) s (ties_of sounds)

  ties_split : (xs : List Sound) (i : ℕ) (s : Sound) → i < length xs → s ≡ get_or xs i s → is_tie s.kind ≡ true
      → sum_by (sound_length bars) (ties_of (drop i xs)) ≡ sound_length bars s + sum_by (sound_length bars) (ties_of (drop (i + 1) xs))
  ties_split xs i s within is tie =
      ap (λ l. sum_by (sound_length bars) (ties_of l)) (drop-cons xs i s within ∙ ap₂ (λ x n. x ∷ drop n xs) (sym is) (sym (add-one i)))
      ∙ ties_more s (drop (i + 1) xs) tie

  pub ties_step : (xs : List Sound) (i total whole : ℕ) (s : Sound) → i < length xs → s ≡ get_or xs i s → is_tie s.kind ≡ true
      → total + sum_by (sound_length bars) (ties_of (drop i xs)) ≡ whole → total + sound_length bars s + sum_by (sound_length bars) (ties_of (drop (i + 1) xs)) ≡ whole
  ties_step xs i total whole s within is tie h = let split = ties_split xs i s within is tie in omega (arith, split, h)

  pub ties_within : (xs : List Sound) (i total : ℕ) (s : Sound) → i < length xs → s ≡ get_or xs i s → is_tie s.kind ≡ true
      → total + sum_by (sound_length bars) (ties_of (drop i xs)) ≡ sum_by (sound_length bars) (ties_of xs) → total + sound_length bars s ≤ sum_by (sound_length bars) xs
  ties_within xs i total s within is tie h =
      let split = ties_split xs i s within is tie in
      let most : sum_by (sound_length bars) (ties_of xs) ≤ sum_by (sound_length bars) xs = sum_by-take-le (sound_length bars) xs (prefix_len (λ t. is_tie t.kind) xs) in
      omega (arith, split, h, most)

-- the span of a chord that begins is the first of those from its sound on
pub run_pushed : (r : ℕ) (bars : List Bar) (s : Sound) (after : List Sound) (place long : ℕ) (start len : Frac) (x : Span) (before spans : List Span) → begins_chord s.kind ≡ true
    → place ≡ place_of r bars s → long ≡ sound_length bars s + sum_by (sound_length bars) (ties_of after) → IsFrac place (64 * r) start → IsFrac long (64 * r) len
    → x ≡ record { start = start; len = len; keys = s.keys; graces = s.graces; short = is_short s.kind } → spans ≡ before ++ x ∷ []
    → (more : List Span) → AreSpans r bars after more → (own : List Span) × (spans ≡ before ++ own) × AreSpans r bars (s ∷ after) (own ++ more)
run_pushed r bars s after place long start len x before spans begins here all first last is pushed more rest = (
  x ∷ [],
  pushed,
  subst (λ b. Each (IsSpan r bars) (if b then (s, ties_of after) ∷ chord_runs after else chord_runs after) (x ∷ more)) (sym begins) (subst (IsSpan r bars (s, ties_of after)) (sym is) own, rest),
)
  where
    own : IsSpan r bars (s, ties_of after) (record { start = start; len = len; keys = s.keys; graces = s.graces; short = is_short s.kind })
    own = record {
      start = subst (λ n. IsFrac n (64 * r) start) here first;
      len = subst (λ n. IsFrac n (64 * r) len) (all ∙ sym (sum_by-cons (sound_length bars) s (ties_of after))) last;
      keys = refl;
      graces = refl;
      short = refl;
    }

-- ---- the first of the sounds that are left

module _ (r : ℕ) (bars : List Bar) (units : r ≤ MOST_UNITS) (count : length bars ≤ MOST_BARS) (signatures : All (λ b. IsSignature b.num b.den) bars)
    (later after : List Sound) (s : Sound) (some : 1 ≤ length later) (rest : after ≡ drop 1 later) (is : s ≡ get_or later 0 s) where
  later_is : later ≡ s ∷ after
  later_is = drop-cons later 0 s some ∙ ap₂ ◌∷◌ (sym is) (sym rest)

  sum_is : sum_by (sound_length bars) later ≡ sound_length bars s + sum_by (sound_length bars) after
  sum_is = ap (sum_by (sound_length bars)) later_is ∙ sum_by-cons (sound_length bars) s after

  module _ (n p place : ℕ) (stand : StandInBars r (length bars) n p later) (here : place ≡ place_at r bars n p) where
    -- the sounds so far and those that are left are within the score
    pub within_score : place + (sound_length bars s + sum_by (sound_length bars) after) ≤ 16106127360
    within_score =
        let all = filled r bars n p later stand in
        let few = few_parts r bars units count signatures in
        omega (arith, all, few, sum_is, here)

    pub place_later : (n : ℕ) × (p : ℕ) × StandInBars r (length bars) n p after × (place + sound_length bars s ≡ place_at r bars n p)
    place_later = go (subst (StandInBars r (length bars) n p) later_is stand)
      where
        go : StandInBars r (length bars) n p (s ∷ after) → (n : ℕ) × (p : ℕ) × StandInBars r (length bars) n p after × (place + sound_length bars s ≡ place_at r bars n p)
        go (within, bar, at, wide, whole, next) = (
          if p + s.width == r then suc n else n,
          if p + s.width == r then 0 else p + s.width,
          next,
          ap₂ (λ a m. a + s.width * parts_at bars m) here bar ∙ place_next r bars n p s.width within,
        )

  pub spans_later : (sounds : List Sound) (before spans : List Span)
      → ((more : List Span) → AreSpans r bars after more → (own : List Span) × (spans ≡ before ++ own) × AreSpans r bars (s ∷ after) (own ++ more))
      → ((more : List Span) → AreSpans r bars later more → AreSpans r bars sounds (before ++ more)) → (more : List Span) → AreSpans r bars after more → AreSpans r bars sounds (spans ++ more)
  spans_later sounds before spans pushed made more h =
      let o = pushed more h in
      let all = made (o.0 ++ more) (subst (λ l. AreSpans r bars l (o.0 ++ more)) (sym later_is) o.2) in
      subst (AreSpans r bars sounds) (sym (append_assoc before o.0 more) ∙ ap (λ l. l ++ more) (sym o.1)) all

-- where no sound is left
pub spans_end : (r : ℕ) (bars : List Bar) (later sounds : List Sound) (spans : List Span) → length later < 1
    → ((more : List Span) → AreSpans r bars later more → AreSpans r bars sounds (spans ++ more)) → AreSpans r bars sounds spans
spans_end r bars [] sounds spans none made = subst (AreSpans r bars sounds) (append-nil spans) (made [] refl)
spans_end r bars (s ∷ later) sounds spans none made = absurd (omega (arith, none))
