-- The events of voices, gathered one voice after another.
use Rattle.std.proofs.Common.{◌≡◌, ℕ, ◌+◌, ◌<◌, List, [], ◌++◌, drop, get_or, length, map, refl, sym, ap, ap₂, ◌∷◌, ◌∙◌, subst, arith, add-one, append-nil, append_assoc, drop-cons}
use Rattle.std.proofs.Math.ListN.{drop_of_length-le}
use Rattle.rhythm_base.specs.declared.note.Bar.{Bar}
use Rattle.rhythm_base.specs.declared.sound.Sound.{Sound}
use Rattle.rhythm_base.specs.declared.span.Span.{Span}
use Rattle.durations.specs.Spans.{AreSpans}
use Rattle.voice_events.specs.declared.event.KernEvent.{KernEvent}
use Rattle.voice_events.specs.Events.{AreVoiceSpans, span_event}

-- a voice that is one of others as they are seen elsewhere
pub same_voice : (voices others : List (List Sound)) (i : ℕ) (voice : List Sound) → voice ≡ get_or voices i voice → voices ≡ others → voice ≡ get_or others i voice
same_voice voices others i voice is all = is ∙ ap (λ xs. get_or xs i voice) all

module _ (r : ℕ) (bars : List Bar) (voices : List (List Sound)) where
  voice_next : (spine i : ℕ) (sounds : List Sound) (spans : List Span) (more : List KernEvent) → i < length voices → sounds ≡ get_or voices i sounds
      → AreSpans r bars sounds spans → AreVoiceSpans r bars (spine + 1) (drop (i + 1) voices) more
      → AreVoiceSpans r bars spine (drop i voices) (map (span_event spine) spans ++ more)
  voice_next spine i sounds spans more within is are rest =
      let split : drop i voices ≡ sounds ∷ drop (i + 1) voices = drop-cons voices i sounds within ∙ ap₂ (λ x n. x ∷ drop n voices) (sym is) (sym (add-one i)) in
      subst (λ vs. AreVoiceSpans r bars spine vs (map (span_event spine) spans ++ more)) (sym split)
      (spans, more, are, subst (λ n. AreVoiceSpans r bars n (drop (i + 1) voices) more) (add-one spine) rest, refl)

  -- one voice more
  pub voice_written : (spine i : ℕ) (sounds : List Sound) (spans : List Span) (before after more : List KernEvent) → i < length voices → sounds ≡ get_or voices i sounds
      → AreSpans r bars sounds spans → after ≡ before ++ map (span_event spine) spans
      → ((more : List KernEvent) → AreVoiceSpans r bars spine (drop i voices) more → AreVoiceSpans r bars 1 voices (before ++ more))
      → AreVoiceSpans r bars (spine + 1) (drop (i + 1) voices) more → AreVoiceSpans r bars 1 voices (after ++ more)
  voice_written spine i sounds spans before after more within is are pushed made rest =
      let own = map (span_event spine) spans in
      subst (AreVoiceSpans r bars 1 voices) (sym (ap (λ xs. xs ++ more) pushed ∙ append_assoc before own more))
      (made (own ++ more) (voice_next spine i sounds spans more within is are rest))

  -- and none is left
  pub voices_written : (spine i : ℕ) (events : List KernEvent) → i ≡ length voices
      → ((more : List KernEvent) → AreVoiceSpans r bars spine (drop i voices) more → AreVoiceSpans r bars 1 voices (events ++ more)) → AreVoiceSpans r bars 1 voices events
  voices_written spine i events all made =
      let none : drop i voices ≡ [] = drop_of_length-le voices (omega (arith, all)) in
      subst (AreVoiceSpans r bars 1 voices) (append-nil events) (made [] (subst (λ vs. AreVoiceSpans r bars spine vs []) (sym none) refl))
