-- The text of events is read as these events.
use Rattle.std.proofs.Common.{◌≡◌, ℕ, zero, suc, ◌+◌, ◌<◌, ◌≤◌, ◌==◌, Bool, true, false, List, [], ◌∷◌, ◌++◌, map, filter, refl, sym, ap, ap₂, ◌∙◌, subst, arith, append_assoc, append-nil, Some, None}
use Rattle.rhythm_base.specs.declared.limits.TheConstants.{MOST_UNITS}
use Rattle.std.specs.Prelude.{All, if◌then◌else◌}
use Rattle.std.specs.List.{flat_map, range_with_len}
use Rattle.std.specs.Option.{option_map}
use Rattle.std.proofs.lemmas.Bool.Decides.{nat_tests}
use Rattle.std.proofs.lemmas.List.Elements.{All-append, All-cons, All-head, All-nil, All-tail, All-weaker, filter-append}
use Rattle.rhythm_base.specs.declared.span.Span.{Span}
use Rattle.rhythm_base.specs.Lists.{Each}
use Rattle.derivation.specs.declared.score.ScoreBar.{ScoreBar}
use Rattle.derivation.specs.Score.{IsScoreBar}
use Rattle.voice_events.specs.declared.event.KernEvent.{KernEvent}
use Rattle.voice_events.specs.Events.{span_event}
use Rattle.text_words.specs.Lines.{text_lines}
use Rattle.text_words.specs.Steps.{◌>>=◌}
use Rattle.text_words.proofs.TextTests.{all_append, lacks}
use Rattle.voice_events.specs.Parts.{score_parts}
use Rattle.voice_events.specs.VoiceEvents.{AreVoiceEventsFrom}
use Rattle.lily_writer.specs.Reading.{after_head, events_of_lines, lily_events}
use Rattle.lily_writer.specs.Staves.{AreStaffLines, voice_spans}
use Rattle.lily_writer.specs.Text.{IsStaff, page_head, page_tail}
use Rattle.lily_laws.proofs.PageLines.{are_lines, lines_split, staff_lines}
use Rattle.lily_laws.proofs.StavesRead.{staff_read}
use Rattle.lily_laws.specs.Laws.{TextsAreReadAsTheirEvents}

-- ---- the events of a voice among all

abbrev is_of : ℕ → KernEvent → Bool
is_of spine e = e.spine == spine

none_of : (spine : ℕ) (events : List KernEvent) → All (λ e. is_of spine e ≡ false) events → filter (is_of spine) events ≡ []
none_of spine [] are = refl
none_of spine (e ∷ events) are =
    ap (λ b. if b then e ∷ filter (is_of spine) events else filter (is_of spine) events)
    (All-head (λ e. is_of spine e ≡ false) e events are)
    ∙ none_of spine events (All-tail (λ e. is_of spine e ≡ false) e events are)

all_of : (spine : ℕ) (spans : List Span) → filter (is_of spine) (map (span_event spine) spans) ≡ map (span_event spine) spans
all_of spine [] = refl
all_of spine (x ∷ spans) =
    let same : (spine == spine) ≡ true = grind (arith, nat_tests) in
    ap (λ b. if b then span_event spine x ∷ filter (is_of spine) (map (span_event spine) spans) else filter (is_of spine) (map (span_event spine) spans))
    same
    ∙ ap (λ es. span_event spine x ∷ es) (all_of spine spans)

spans_back : (spine : ℕ) (spans : List Span) → map (λ (e : KernEvent). e.span) (map (span_event spine) spans) ≡ spans
spans_back spine [] = refl
spans_back spine (x ∷ spans) = ap (λ xs. x ∷ xs) (spans_back spine spans)

own_spines : (spine : ℕ) (spans : List Span) → All (λ e. e.spine < suc spine) (map (span_event spine) spans)
own_spines spine [] = All-nil (λ e. e.spine < suc spine)
own_spines spine (x ∷ spans) = All-cons (λ e. e.spine < suc spine) (span_event spine x) (map (span_event spine) spans) (omega arith)
    (own_spines spine spans)

same_spines : (spine : ℕ) (spans : List Span) → All (λ e. spine ≤ e.spine) (map (span_event spine) spans)
same_spines spine [] = All-nil (λ e. spine ≤ e.spine)
same_spines spine (x ∷ spans) = All-cons (λ e. spine ≤ e.spine) (span_event spine x) (map (span_event spine) spans) (omega arith)
    (same_spines spine spans)

-- those of later voices have higher spines
later_spines : (r end spine n : ℕ) (events : List KernEvent) → AreVoiceEventsFrom r end spine n events → All (λ e. spine ≤ e.spine) events
later_spines r end spine zero events are = subst (All (λ e. spine ≤ e.spine)) (sym are) (All-nil (λ e. spine ≤ e.spine))
later_spines r end spine (suc n) events (spans, others, voice, rest, all) =
    let more = All-weaker (λ e. suc spine ≤ e.spine) (λ e. spine ≤ e.spine) (λ e h. omega (arith, h)) others
    (later_spines r end (suc spine) n others rest) in
    subst (All (λ e. spine ≤ e.spine)) (sym all) (All-append (λ e. spine ≤ e.spine) (map (span_event spine) spans) others
    (same_spines spine spans) more)

spans_found : (r end spine n : ℕ) (before others : List KernEvent) (spans : List Span) → All (λ e. e.spine < spine) before
    → AreVoiceEventsFrom r end (suc spine) n others
    → voice_spans spine (before ++ (map (span_event spine) spans ++ others)) ≡ spans
spans_found r end spine n before others spans low rest =
    let first = none_of spine before (All-weaker (λ e. e.spine < spine) (λ e. is_of spine e ≡ false) (λ e h. below e.spine h) before low) in
    let last = none_of spine others (All-weaker (λ e. suc spine ≤ e.spine) (λ e. is_of spine e ≡ false) (λ e h. above e.spine h) others
    (later_spines r end (suc spine) n others rest)) in
    ap (map (λ (e : KernEvent). e.span))
    (filter-append (is_of spine) before (map (span_event spine) spans ++ others)
    ∙ ap₂ ◌++◌ first (filter-append (is_of spine) (map (span_event spine) spans) others ∙ ap₂ ◌++◌ (all_of spine spans) last)
    ∙ append-nil (map (span_event spine) spans)) ∙ spans_back spine spans
  where
    below : (n : ℕ) → n < spine → (n == spine) ≡ false
    below n h = grind (arith, nat_tests, h)

    above : (n : ℕ) → suc spine ≤ n → (n == spine) ≡ false
    above n h = grind (arith, nat_tests, h)

-- ---- the staves

no_more : (spine : ℕ) → events_of_lines spine None page_tail ≡ Some []
no_more spine = refl

module _ (r : ℕ) (bars : List ScoreBar) (events : List KernEvent) (some : 1 ≤ r) (few : r ≤ MOST_UNITS) (is : All IsScoreBar bars) where
  own_spans : (spine n : ℕ) (before own others : List KernEvent) (spans : List Span) → events ≡ before ++ own
      → All (λ e. e.spine < spine) before
      → AreVoiceEventsFrom r (score_parts r bars) (suc spine) n others → own ≡ map (span_event spine) spans ++ others
      → voice_spans spine events ≡ spans
  own_spans spine n before own others spans whole low rest all =
      ap (voice_spans spine) (whole ∙ ap (λ es. before ++ es) all) ∙ spans_found r (score_parts r bars) spine n before others spans low rest

  staves_read : (n spine : ℕ) (before own : List KernEvent) (staves : List (List (List ℕ))) → events ≡ before ++ own
      → All (λ e. e.spine < spine) before
      → AreVoiceEventsFrom r (score_parts r bars) spine n own → Each (IsStaff r bars events) (range_with_len spine n) staves
      → events_of_lines spine None (flat_map (λ lines. lines) staves ++ page_tail) ≡ Some own
  staves_read zero spine before own staves whole low are each =
      ap (λ ss. events_of_lines spine None (flat_map (λ lines. lines) ss ++ page_tail)) each ∙ no_more spine ∙ ap Some (sym are)
  staves_read (suc n) spine before own [] whole low are each = absurd each
  staves_read (suc n) spine before own (lines ∷ staves) whole low (spans, others, voice, rest, all) (staff, each) =
      let found = own_spans spine n before own others spans whole low rest all in
      let rows = flat_map (λ lines. lines) staves in
      let next : spine + 1 ≡ suc spine = omega arith in
      let later = subst (λ k. Each (IsStaff r bars events) (range_with_len k n) staves) next each in
      let more = staves_read n (suc spine) (before ++ map (span_event spine) spans) others staves
      (whole ∙ ap (λ es. before ++ es) all ∙ sym (append_assoc before (map (span_event spine) spans) others))
      (All-append (λ e. e.spine < suc spine) before (map (span_event spine) spans)
      (All-weaker (λ e. e.spine < spine) (λ e. e.spine < suc spine) (λ e h. omega (arith, h)) before low) (own_spines spine spans))
      rest later in
      ap (events_of_lines spine None) (append_assoc lines rows page_tail)
      ∙ staff_read r spine bars (spine == 1) spans lines (rows ++ page_tail) some few is voice
      (subst (λ xs. AreStaffLines r bars (spine == 1) xs lines) found staff)
      ∙ ap (option_map (λ others. map (span_event spine) spans ++ others)) more ∙ ap Some (sym all)

  staves_lines : (n spine : ℕ) (before own : List KernEvent) (staves : List (List (List ℕ))) → events ≡ before ++ own
      → All (λ e. e.spine < spine) before
      → AreVoiceEventsFrom r (score_parts r bars) spine n own → Each (IsStaff r bars events) (range_with_len spine n) staves
      → are_lines (flat_map (λ lines. lines) staves) ≡ true
  staves_lines zero spine before own staves whole low are each = ap (λ ss. are_lines (flat_map (λ lines. lines) ss)) each
  staves_lines (suc n) spine before own [] whole low are each = absurd each
  staves_lines (suc n) spine before own (lines ∷ staves) whole low (spans, others, voice, rest, all) (staff, each) =
      let found = own_spans spine n before own others spans whole low rest all in
      let next : spine + 1 ≡ suc spine = omega arith in
      let later = subst (λ k. Each (IsStaff r bars events) (range_with_len k n) staves) next each in
      all_append (lacks 10) lines (flat_map (λ lines. lines) staves)
      (staff_lines r bars (spine == 1) spans lines some few voice.each
      (subst (λ xs. AreStaffLines r bars (spine == 1) xs lines) found staff))
      (staves_lines n (suc spine) (before ++ map (span_event spine) spans) others staves
      (whole ∙ ap (λ es. before ++ es) all ∙ sym (append_assoc before (map (span_event spine) spans) others))
      (All-append (λ e. e.spine < suc spine) before (map (span_event spine) spans)
      (All-weaker (λ e. e.spine < spine) (λ e. e.spine < suc spine) (λ e h. omega (arith, h)) before low) (own_spines spine spans))
      rest later)

-- ---- the text

head_read : (lines : List (List ℕ)) → after_head (page_head ++ lines ++ page_tail) ≡ Some (lines ++ page_tail)
head_read lines = refl

pub texts_read : TextsAreReadAsTheirEvents
unfolding lily_events
texts_read r bars voices events text writable are (staves, each, is) =
    let rows = flat_map (λ lines. lines) staves in
    let some = writable.some_unit in
    let few = writable.few_units in
    let low : All (λ e. e.spine < 1) [] = All-nil (λ e. e.spine < 1) in
    let free = staves_lines r bars events some few writable.each_bar voices 1 [] events staves refl low are each in
    let all : are_lines (page_head ++ rows ++ page_tail) ≡ true = all_append (lacks 10) (page_head ++ rows) page_tail
    (all_append (lacks 10) page_head rows refl free) refl in
    ap (λ ls. after_head ls >>= events_of_lines 1 None) (ap text_lines is ∙ lines_split (page_head ++ rows ++ page_tail) all)
    ∙ ap (λ o. o >>= events_of_lines 1 None) (head_read rows)
    ∙ staves_read r bars events some few writable.each_bar voices 1 [] events staves refl low are each
