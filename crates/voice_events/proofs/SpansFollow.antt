-- The spans of well-sounded sounds follow one another, up to the last barline.
use Rattle.std.proofs.Common.{◌≡◌, ℕ, suc, ◌+◌, ◌*◌, ◌<◌, ◌≤◌, ◌==◌, Bool, true, false, cond, List, [], ◌∷◌, length, refl, sym, ap, ap₂, ◌∙◌, subst, arith}
use Rattle.std.specs.Prelude.{All, if◌then◌else◌, sum_by}
use Rattle.std.proofs.Math.Nat.{mul-le-mul}
use Rattle.std.proofs.lemmas.Bool.{false≢true}
use Rattle.std.proofs.lemmas.List.Elements.{All-cons, All-head, All-nil, All-tail}
use Rattle.std.proofs.lemmas.List.Sums.{sum_by-cons, take_while-cons}
use Rattle.rhythm_base.specs.declared.note.Bar.{Bar}
use Rattle.rhythm_base.specs.declared.sound.Sound.{Sound}
use Rattle.rhythm_base.specs.declared.sound.SoundKind.{SoundKind}
use Rattle.rhythm_base.specs.declared.sound.SoundKind.TheVariants.{Begin, Short, Tie, Rest}
use Rattle.rhythm_base.specs.declared.span.Span.{Span}
use Rattle.rhythm_base.specs.Lists.{Each}
use Rattle.rhythm_base.specs.Signatures.{IsSignature}
use Rattle.durations.specs.Spans.{IsSpan, chord_runs, parts_of_unit, place_of, sound_length}
use Rattle.rhythm_base.specs.SoundKinds.{begins_chord, is_rest, is_tie}
use Rattle.derivation.proofs.FilledBars.{filled, parts_at, place_at, place_next}
use Rattle.derivation.proofs.SpansRead.{ties_of}
use Rattle.derivation.specs.WellSounded.{AreKeys, AreWellSounded, IsWellSounding, StandInBars}
use Rattle.voice_events.proofs.CountedParts.{is_whole, parts_counted}
use Rattle.voice_events.specs.Parts.{end_parts, len_parts, start_parts}
use Rattle.voice_events.specs.VoiceEvents.{AreOfVoice, FollowFrom, IsVoiceSpan}
use Rattle.voice_events.proofs.ScoreBars.{some_parts}

-- how long the ties are that stand first
abbrev pub tied_length : List Bar → List Sound → ℕ
tied_length bars sounds = sum_by (sound_length bars) (ties_of sounds)

-- ---- ties go on, all else ends them

begun_ends : (k : SoundKind) → begins_chord k ≡ true → (is_tie k ≡ false) × (is_rest k ≡ false)
begun_ends Begin e = (refl, refl)
begun_ends Short e = (refl, refl)
begun_ends Tie e = absurd (false≢true e)
begun_ends Rest e = absurd (false≢true e)

tied_more : (bars : List Bar) (s : Sound) (sounds : List Sound)
    → tied_length bars (s ∷ sounds) ≡ (if is_tie s.kind then sound_length bars s + tied_length bars sounds else 0)
tied_more bars s sounds = ap (sum_by (sound_length bars)) (take_while-cons (λ t. is_tie t.kind) s sounds) ∙ go (is_tie s.kind)
  where
    go : (b : Bool) → sum_by (sound_length bars) (cond b (s ∷ ties_of sounds) [])
        ≡ (if b then sound_length bars s + tied_length bars sounds else 0)
    go true = sum_by-cons (sound_length bars) s (ties_of sounds)
    go false = refl

module _ (r : ℕ) (bars : List Bar) (are : All (λ b. IsSignature b.num b.den) bars) where
  abbrev end : ℕ
  end = r * sum_by parts_of_unit bars

  -- ---- one span

  starts_at : (s : Sound) (ties : List Sound) (x : Span) → IsSpan r bars (s, ties) x → start_parts r x ≡ place_at r bars s.bar s.place
  starts_at s ties x is = parts_counted (place_of r bars s) (64 * r) x.start is.start

  lasts : (s : Sound) (ties : List Sound) (x : Span) → IsSpan r bars (s, ties) x
      → len_parts r x ≡ sound_length bars s + sum_by (sound_length bars) ties
  lasts s ties x is = parts_counted (sum_by (sound_length bars) (s ∷ ties)) (64 * r) x.len is.len ∙ sum_by-cons (sound_length bars) s ties

  voice_span : (s : Sound) (ties : List Sound) (x : Span) → s.bar < length bars → 1 ≤ s.width → is_rest s.kind ≡ false → IsWellSounding s
      → IsSpan r bars (s, ties) x → IsVoiceSpan r x
  voice_span s ties x within wide sounds well is = record {
    start = is_whole (place_of r bars s) (64 * r) x.start is.start;
    len = is_whole (sum_by (sound_length bars) (s ∷ ties)) (64 * r) x.len is.len;
    long =
        let some : 1 ≤ s.width * parts_at bars s.bar = mul-le-mul {n₁ = 1} {m₁ = 1} {n₂ = s.width} {m₂ = parts_at bars s.bar} wide
        (some_parts bars s.bar are within) in
        let all = lasts s ties x is in
        omega (arith, some, all);
    keys = subst AreKeys (sym is.keys) (well.sounding sounds);
    few_graces = subst (λ (graces : List ℕ). length graces ≤ 3) (sym is.graces) well.few_graces;
    graces = subst (All AreKeys) (sym is.graces) well.graces;
  }

  spans_are : (sounds : List Sound) (n p : ℕ) (spans : List Span) → StandInBars r (length bars) n p sounds → All IsWellSounding sounds
      → Each (IsSpan r bars) (chord_runs sounds) spans → All (IsVoiceSpan r) spans
  spans_are [] n p spans stand well each = subst (All (IsVoiceSpan r)) (sym each) (All-nil _)
  spans_are (s ∷ sounds) n p spans (within, bar, place, wide, whole, stand) well each =
      go (begins_chord s.kind) refl spans each (λ more rest. spans_are sounds _ _ more stand (All-tail IsWellSounding s sounds well) rest)
    where
      go : (b : Bool) → begins_chord s.kind ≡ b → (spans : List Span)
          → Each (IsSpan r bars) (if b then (s, ties_of sounds) ∷ chord_runs sounds else chord_runs sounds) spans
          → ((more : List Span) → Each (IsSpan r bars) (chord_runs sounds) more → All (IsVoiceSpan r) more) → All (IsVoiceSpan r) spans
      go false e spans each next = next spans each
      go true e [] each next = absurd each
      go true e (x ∷ more) (is, each) next =
          All-cons (IsVoiceSpan r) x more
          (voice_span s (ties_of sounds) x (subst (λ k. k < length bars) (sym bar) within) wide (begun_ends s.kind e).1
          (All-head IsWellSounding s sounds well) is) (next more each)

  -- ---- one after another: what sounded before ends where the ties that stand first end, or earlier

  follow : (sounds : List Sound) (n p from : ℕ) (spans : List Span) → StandInBars r (length bars) n p sounds
      → from ≤ place_at r bars n p + tied_length bars sounds
      → Each (IsSpan r bars) (chord_runs sounds) spans → FollowFrom r end from spans
  follow [] n p from spans stand before each =
      let all = filled r bars n p [] stand in
      let last : from ≤ end = omega (arith, all, before) in
      subst (FollowFrom r end from) (sym each) last
  follow (s ∷ sounds) n p from spans (within, bar, place, wide, whole, stand) before each =
      go (begins_chord s.kind) refl spans each (λ from more rest each. follow sounds (if p + s.width == r then suc n else n)
      (if p + s.width == r then 0 else p + s.width) from more stand rest each)
    where
      -- where the next sound begins
      next_place : place_at r bars n p + sound_length bars s
          ≡ place_at r bars (if p + s.width == r then suc n else n) (if p + s.width == r then 0 else p + s.width)
      next_place = ap (λ k. place_at r bars n p + s.width * parts_at bars k) bar ∙ place_next r bars n p s.width within

      go_on : (b : Bool) → from ≤ place_at r bars n p + (if b then sound_length bars s + tied_length bars sounds else 0)
          → from ≤ place_at r bars n p + sound_length bars s + tied_length bars sounds
      go_on true h = omega (arith, h)
      go_on false h = omega (arith, h)

      go : (b : Bool) → begins_chord s.kind ≡ b → (spans : List Span)
          → Each (IsSpan r bars) (if b then (s, ties_of sounds) ∷ chord_runs sounds else chord_runs sounds) spans
          → ((from : ℕ) (more : List Span)
          → from ≤ place_at r bars (if p + s.width == r then suc n else n)
          (if p + s.width == r then 0 else p + s.width) + tied_length bars sounds
          → Each (IsSpan r bars) (chord_runs sounds) more → FollowFrom r end from more)
          → FollowFrom r end from spans
      go false e spans each next =
          let there = go_on (is_tie s.kind) (subst (λ k. from ≤ place_at r bars n p + k) (tied_more bars s sounds) before) in
          next from spans (subst (λ k. from ≤ k + tied_length bars sounds) next_place there) each
      go true e [] each next = absurd each
      go true e (x ∷ more) (is, each) next =
          let ends : tied_length bars (s ∷ sounds) ≡ 0 =
          tied_more bars s sounds ∙ ap (λ b. if b then sound_length bars s + tied_length bars sounds else 0) (begun_ends s.kind e).0 in
          let here : start_parts r x ≡ place_at r bars n p = starts_at s (ties_of sounds) x is
          ∙ ap₂ (λ k l. place_at r bars k l) bar place in
          let long = lasts s (ties_of sounds) x is in
          let there : end_parts r x ≤ place_at r bars n p + sound_length bars s + tied_length bars sounds = omega (arith, here, long) in (
            omega (arith, ends, here, before),
            next (end_parts r x) more (subst (λ k. end_parts r x ≤ k + tied_length bars sounds) next_place there) each,
          )

  pub of_voice : (sounds : List Sound) (spans : List Span) → AreWellSounded r (length bars) sounds
      → Each (IsSpan r bars) (chord_runs sounds) spans → AreOfVoice r end spans
  of_voice sounds spans well each = record {
    each = spans_are sounds 0 0 spans well.places well.each each;
    follow = follow sounds 0 0 0 spans well.places (omega arith) each;
  }
