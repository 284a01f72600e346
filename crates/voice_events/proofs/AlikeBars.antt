-- Bars of the same signatures give the same spans.
use Rattle.std.proofs.Common.{◌≡◌, ℕ, zero, suc, ◌+◌, ◌*◌, ◌/◌, List, [], ◌∷◌, map, refl, sym, ap, ap₂, ◌∙◌, subst, take}
use Rattle.std.specs.Prelude.{slice_get, sum_by, unwrap_or}
use Rattle.std.proofs.lemmas.List.Sums.{sum_by-cons}
use Rattle.std.proofs.lemmas.Option.{slice_get-map}
use Rattle.rhythm_base.specs.declared.note.Bar.{Bar}
use Rattle.rhythm_base.specs.declared.sound.Sound.{Sound}
use Rattle.rhythm_base.specs.declared.span.Span.{Span}
use Rattle.rhythm_base.specs.Lists.{Each}
use Rattle.durations.specs.Spans.{IsFrac, IsSpan, chord_runs, parts_of_sound, parts_of_unit, place_of, sound_length}
use Rattle.derivation.specs.declared.score.ScoreBar.{ScoreBar}
use Rattle.voice_events.specs.declared.event.KernEvent.{KernEvent}
use Rattle.voice_events.specs.Events.{AreVoiceSpans, HaveSignatures}
use Rattle.voice_events.proofs.ScoreBars.{first_same, none_left}

-- they have units of the same parts
units_alike : (bars others : List Bar) → map {B = ℕ × ℕ} (λ b. (b.num, b.den)) bars ≡ map {B = ℕ × ℕ} (λ b. (b.num, b.den)) others
    → map parts_of_unit bars ≡ map parts_of_unit others
units_alike [] [] same = refl
units_alike [] (y ∷ others) same = absurd (none_left _ _ same)
units_alike (x ∷ bars) [] same = absurd (none_left _ _ (sym same))
units_alike (x ∷ bars) (y ∷ others) same =
    let (one, more) = first_same _ _ _ _ same in
    ap₂ ◌∷◌ (ap (λ (p : ℕ × ℕ). p.0 * (64 / p.1)) one) (units_alike bars others more)

before_alike : (n : ℕ) (bars others : List Bar) → map parts_of_unit bars ≡ map parts_of_unit others
    → sum_by parts_of_unit (take n bars) ≡ sum_by parts_of_unit (take n others)
before_alike zero bars others same = refl
before_alike (suc n) [] [] same = refl
before_alike (suc n) [] (y ∷ others) same = absurd (none_left _ _ same)
before_alike (suc n) (x ∷ bars) [] same = absurd (none_left _ _ (sym same))
before_alike (suc n) (x ∷ bars) (y ∷ others) same =
    let (one, more) = first_same _ _ _ _ same in
    sum_by-cons parts_of_unit x (take n bars) ∙ ap₂ ◌+◌ one (before_alike n bars others more) ∙ sym (sum_by-cons parts_of_unit y (take n others))

module _ (r : ℕ) (bars others : List Bar) (same : map parts_of_unit bars ≡ map parts_of_unit others) where
  parts_alike : (s : Sound) → parts_of_sound bars s ≡ parts_of_sound others s
  parts_alike s =
      ap (λ o. unwrap_or o 0)
      (sym (slice_get-map parts_of_unit bars s.bar) ∙ ap (λ xs. slice_get xs s.bar) same ∙ slice_get-map parts_of_unit others s.bar)

  places_alike : (s : Sound) → place_of r bars s ≡ place_of r others s
  places_alike s = ap₂ (λ before parts. r * before + s.place * parts) (before_alike s.bar bars others same) (parts_alike s)

  lengths_alike : sound_length bars ≡ sound_length others
  lengths_alike = λ i s. s.width * parts_alike s i

  span_alike : (run : Sound × List Sound) (x : Span) → IsSpan r bars run x → IsSpan r others run x
  span_alike run x is = record {
    start = subst (λ n. IsFrac n (64 * r) x.start) (places_alike run.0) is.start;
    len = subst (λ n. IsFrac n (64 * r) x.len) (ap (λ len. sum_by len (run.0 ∷ run.1)) lengths_alike) is.len;
    keys = is.keys;
    graces = is.graces;
    short = is.short;
  }

  each_alike : (runs : List (Sound × List Sound)) (xs : List Span) → Each (IsSpan r bars) runs xs → Each (IsSpan r others) runs xs
  each_alike [] xs each = each
  each_alike (run ∷ runs) [] each = absurd each
  each_alike (run ∷ runs) (x ∷ xs) (is, each) = (span_alike run x is, each_alike runs xs each)

  voices_alike : (spine : ℕ) (voices : List (List Sound)) (events : List KernEvent) → AreVoiceSpans r bars spine voices events
      → AreVoiceSpans r others spine voices events
  voices_alike spine [] events are = are
  voices_alike spine (sounds ∷ voices) events (spans, later, own, rest, all) =
      (spans, later, each_alike (chord_runs sounds) spans own, voices_alike (suc spine) voices later rest, all)

-- the spans over some bars of the signatures of a score are those over all
pub spans_alike : (sbars : List ScoreBar) (r : ℕ) (bars others : List Bar) (spine : ℕ) (voices : List (List Sound)) (events : List KernEvent)
    → HaveSignatures sbars bars → HaveSignatures sbars others → AreVoiceSpans r bars spine voices events → AreVoiceSpans r others spine voices events
spans_alike sbars r bars others spine voices events have own are =
    voices_alike r bars others (units_alike bars others (have ∙ sym own)) spine voices events are
