-- The events of one voice in front of those of the voices after it.
use Rattle.std.proofs.Common.{◌≡◌, ℕ, suc, zero, ◌+◌, ◌==◌, ◌≤◌, ◌<◌, true, false, List, [], ◌∷◌, ◌++◌, drop, length, map, take, refl, sym, ap, ◌∙◌, subst, append-nil, arith}
use Rattle.std.specs.Prelude.{All, cond, filter}
use Rattle.std.specs.List.{prefix_len}
use Rattle.std.proofs.Math.Seq.{drop-append_seam, take-append_seam}
use Rattle.std.proofs.lemmas.Bool.Decides.{nat_tests}
use Rattle.std.proofs.lemmas.List.{map-append}
use Rattle.std.proofs.lemmas.List.Elements.{All-append, All-cons, All-head, All-nil, All-tail, filter-append}
use Rattle.rhythm_base.specs.declared.span.Span.{Span}
use Rattle.voice_events.specs.declared.event.KernEvent.{KernEvent}
use Rattle.voice_events.specs.Events.{span_event}
use Rattle.voice_events.specs.VoiceEvents.{AreOfVoice, AreVoiceEventsFrom}
use Rattle.lily_writer.specs.Staves.{spans_of, voice_spans}

abbrev own_events : ℕ → List Span → List KernEvent
own_events spine spans = map (span_event spine) spans

same_spine : (spine : ℕ) → (spine == spine) ≡ true
same_spine spine = grind (arith, nat_tests)

other_spine : (n spine : ℕ) → n < spine → (spine == n) ≡ false
other_spine n spine less = grind (arith, nat_tests)

later_own : (spine n : ℕ) (spans : List Span) → n ≤ spine → All (λ e. n ≤ e.spine) (own_events spine spans)
later_own spine n [] le = All-nil (λ e. n ≤ e.spine)
later_own spine n (x ∷ spans) le = All-cons (λ e. n ≤ e.spine) (span_event spine x) (own_events spine spans) le (later_own spine n spans le)

-- no event is of an earlier spine
later_spines : (resolution end spine voices n : ℕ) (events : List KernEvent) → n ≤ spine
    → AreVoiceEventsFrom resolution end spine voices events → All (λ e. n ≤ e.spine) events
later_spines resolution end spine zero n events le are = subst (All (λ e. n ≤ e.spine)) (sym are) (All-nil (λ e. n ≤ e.spine))
later_spines resolution end spine (suc voices) n events le (spans, others, own, rest, is) =
    subst (All (λ e. n ≤ e.spine)) (sym is)
    (All-append (λ e. n ≤ e.spine) (own_events spine spans) others (later_own spine n spans le)
    (later_spines resolution end (suc spine) voices n others (omega (arith, le)) rest))

front_length : (spine : ℕ) (spans : List Span) (others : List KernEvent) → All (λ e. suc spine ≤ e.spine) others
    → prefix_len (λ e. e.spine == spine) (own_events spine spans ++ others) ≡ length (own_events spine spans)
front_length spine [] [] later = refl
front_length spine [] (e ∷ others) later =
    ap (λ b. cond b (1 + prefix_len (λ d. d.spine == spine) others) 0) (other_spine spine e.spine
    (All-head (λ d. suc spine ≤ d.spine) e others later))
front_length spine (x ∷ spans) others later =
    let rest = front_length spine spans others later in
    ap (λ b. cond b (1 + prefix_len (λ d. d.spine == spine) (own_events spine spans ++ others)) 0) (same_spine spine) ∙ omega (arith, rest)

spans_own : (spine : ℕ) (spans : List Span) → voice_spans spine (own_events spine spans) ≡ spans
spans_own spine [] = refl
spans_own spine (x ∷ spans) =
    ap (λ b. spans_of (cond b (span_event spine x ∷ filter (λ e. e.spine == spine) (own_events spine spans))
    (filter (λ e. e.spine == spine) (own_events spine spans)))) (same_spine spine)
    ∙ ap (λ xs. x ∷ xs) (spans_own spine spans)

spans_none : (n : ℕ) (events : List KernEvent) → All (λ e. n < e.spine) events → voice_spans n events ≡ []
spans_none n [] later = refl
spans_none n (e ∷ events) later =
    ap (λ b. map (λ d. d.span) (cond b (e ∷ filter (λ d. d.spine == n) events) (filter (λ d. d.spine == n) events)))
    (other_spine n e.spine (All-head (λ d. n < d.spine) e events later))
    ∙ spans_none n events (All-tail (λ d. n < d.spine) e events later)

spans_before : (n spine : ℕ) (spans : List Span) → spine < n → voice_spans n (own_events spine spans) ≡ []
spans_before n spine [] less = refl
spans_before n spine (x ∷ spans) less =
    let test : (spine == n) ≡ false = grind (arith, nat_tests) in
    ap (λ b. map (λ d. d.span) (cond b (span_event spine x ∷ filter (λ d. d.spine == n) (own_events spine spans))
    (filter (λ d. d.spine == n) (own_events spine spans)))) test
    ∙ spans_before n spine spans less

spans_append : (n : ℕ) (xs ys : List KernEvent) → voice_spans n (xs ++ ys) ≡ voice_spans n xs ++ voice_spans n ys
spans_append n xs ys = ap (spans_of) (filter-append (λ e. e.spine == n) xs ys)
    ∙ map-append (λ (e : KernEvent). e.span) (filter (λ e. e.spine == n) xs) (filter (λ e. e.spine == n) ys)

plain_spans : (spine : ℕ) (spans : List Span) → spans_of (own_events spine spans) ≡ spans
plain_spans spine [] = refl
plain_spans spine (x ∷ spans) = ap (λ xs. x ∷ xs) (plain_spans spine spans)

-- The front of the events, as many as are of the first spine, are those of its voice, and the others of the voices after it
pub record IsSplit (resolution end spine voices : ℕ) (events front others : List KernEvent) : Type 0 where
  pub own : AreOfVoice resolution end (spans_of front)
  pub spans : spans_of front ≡ voice_spans spine events
  pub rest : AreVoiceEventsFrom resolution end (suc spine) voices others
  pub later : (n : ℕ) → spine < n → voice_spans n others ≡ voice_spans n events

pub voice_split : (resolution end spine voices count : ℕ) (events : List KernEvent)
    → AreVoiceEventsFrom resolution end spine (suc voices) events
    → count ≡ prefix_len (λ e. e.spine == spine) events → IsSplit resolution end spine voices events (take count events) (drop count events)
voice_split resolution end spine voices count events (spans, others, own, rest, is) counted =
    let mine = own_events spine spans in
    let later = later_spines resolution end (suc spine) voices (suc spine) others (omega arith) rest in
    let number : count ≡ length mine = counted ∙ ap (prefix_len (λ e. e.spine == spine)) is ∙ front_length spine spans others later in
    let front : take count events ≡ mine = (λ i. take (number i) (is i)) ∙ take-append_seam mine others in
    let back : drop count events ≡ others = (λ i. drop (number i) (is i)) ∙ drop-append_seam mine others in
    let all : voice_spans spine events ≡ spans = ap (voice_spans spine) is ∙ spans_append spine mine others
    ∙ (λ i. spans_own spine spans i ++ spans_none spine others later i) ∙ append-nil spans in
    record {
      own = subst (λ es. AreOfVoice resolution end (spans_of es)) (sym front)
          (subst (AreOfVoice resolution end) (sym (plain_spans spine spans)) own);
      spans = ap (spans_of) front ∙ plain_spans spine spans ∙ sym all;
      rest = subst (AreVoiceEventsFrom resolution end (suc spine) voices) (sym back) rest;
      later = λ n less. ap (voice_spans n) back ∙ sym (ap (voice_spans n) is ∙ spans_append n mine others ∙ ap
          (λ xs. xs ++ voice_spans n others) (spans_before n spine spans less));
    }
