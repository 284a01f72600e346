-- The events of a spine are those of its voice.
use Rattle.std.proofs.Common.{◌≡◌, ◌≢◌, ℕ, zero, suc, ◌+◌, ◌<◌, ◌≤◌, ◌==◌, Bool, true, false, List, [], ◌∷◌, ◌++◌, length, map, refl, sym, ap, ◌∙◌, subst, append-nil, inl, inr, arith}
use Rattle.std.specs.Prelude.{All, filter, if◌then◌else◌}
use Rattle.std.specs.List.{flat_map}
use Rattle.std.proofs.lemmas.Bool.{cases_lt}
use Rattle.std.proofs.lemmas.Grind.{flat_map-append}
use Rattle.std.proofs.lemmas.List.Elements.{All-append, filter-append}
use Rattle.rhythm_base.proofs.OrderedLists.{all_cons, all_head, all_tail}
use Rattle.rhythm_base.specs.declared.event.Event.{Event}
use Rattle.rhythm_base.specs.declared.note.Note.{Note}
use Rattle.rhythm_base.specs.declared.span.Span.{Span}
use Rattle.voice_events.specs.Events.{span_event}
use Rattle.voice_events.specs.declared.event.KernEvent.{KernEvent}
use Rattle.voice_events.specs.Parts.{end_parts}
use Rattle.voice_events.specs.VoiceEvents.{AreOfVoice, AreVoiceEventsFrom, FollowFrom, IsVoiceSpan}
use Rattle.smf_bytes.specs.Track.{AreTimed}
use Rattle.smf_writer.specs.EventNotes.{AreKept, event_notes}
use Rattle.smf_writer.specs.NoteMessages.{AreMessages, Message, event_of}
use Rattle.smf_writer.specs.RenderedFile.{AreVoicesFrom, IsVoiceTrack, spine_notes}
use Rattle.smf_writer.specs.Strokes.{event_strokes, spine_events, stroke_messages, strokes_events, voices_from}
use Rattle.smf_writer.specs.declared.stroke.Stroke.{Stroke}
use Rattle.smf_writer.proofs.EventStrokes.{other_false}
use Rattle.smf_writer.proofs.StrokeOrder.{all_of, notes_of}
use Rattle.smf_writer.proofs.Voices.{CanStand, voice_kept, voice_messages, voice_stands, voice_strokes, voice_timed}
use Rattle.rhythm_base.proofs.Booleans.{equal_test}

abbrev pub of_spine : ℕ → KernEvent → Bool
of_spine spine e = e.spine == spine

abbrev pub own : ℕ → List KernEvent → List KernEvent
own spine events = filter (of_spine spine) events

-- ---- the events of a spine among all

own_all : (spine : ℕ) (spans : List Span) → own spine (map (span_event spine) spans) ≡ map (span_event spine) spans
own_all spine [] = refl
own_all spine (x ∷ spans) =
    ap (λ b. if b then span_event spine x ∷ own spine (map (span_event spine) spans) else own spine (map (span_event spine) spans)) (equal_test spine spine refl)
    ∙ ap (λ (es : List KernEvent). span_event spine x ∷ es) (own_all spine spans)

own_none : (spine other : ℕ) (spans : List Span) → other ≢ spine → own spine (map (span_event other) spans) ≡ []
own_none spine other [] apart = refl
own_none spine other (x ∷ spans) apart =
    ap (λ b. if b then span_event other x ∷ own spine (map (span_event other) spans) else own spine (map (span_event other) spans)) (other_false other spine apart)
    ∙ own_none spine other spans apart

own_later : (resolution last from voices spine : ℕ) (events : List KernEvent) → spine < from → AreVoiceEventsFrom resolution last from voices events → own spine events ≡ []
own_later resolution last from zero spine events less h = ap (own spine) h
own_later resolution last from (suc voices) spine events less (spans, others, voice, later, is) =
    let apart : from ≢ spine = λ e. absurd (omega (arith, less, e)) in
    ap (own spine) is
    ∙ filter-append (of_spine spine) (map (span_event from) spans) others
    ∙ ap (λ (es : List KernEvent). es ++ own spine others) (own_none spine from spans apart)
    ∙ own_later resolution last (suc from) voices spine others (omega arith) later

-- the spans of a spine
pub record HasSpans (resolution last spine : ℕ) (events : List KernEvent) : Type 0 where
  pub spans : List Span
  pub voice : AreOfVoice resolution last spans
  pub are : own spine events ≡ map (span_event spine) spans

pub spine_spans : (resolution last from voices spine : ℕ) (events : List KernEvent) → from ≤ spine → spine < from + voices → AreVoiceEventsFrom resolution last from voices events → HasSpans resolution last spine events
spine_spans resolution last from zero spine events low high h = absurd (omega arith)
spine_spans resolution last from (suc voices) spine events low high (spans, others, voice, later, is) = elim (cases_lt from spine) [
  | inl after ↦ (let apart : from ≢ spine = λ e. absurd (omega (arith, after, e)) in
      let rest = spine_spans resolution last (suc from) voices spine others (omega arith) (omega arith) later in
      record {
        spans = rest.spans;
        voice = rest.voice;
        are = ap (own spine) is
            ∙ filter-append (of_spine spine) (map (span_event from) spans) others
            ∙ ap (λ (es : List KernEvent). es ++ own spine others) (own_none spine from spans apart)
            ∙ rest.are;
      })
  | inr here ↦ (let same : from ≡ spine = omega arith in
      record {
        spans = spans;
        voice = voice;
        are = ap (own spine) is
            ∙ filter-append (of_spine spine) (map (span_event from) spans) others
            ∙ ap (λ (es : List KernEvent). own spine (map (span_event from) spans) ++ es) (own_later resolution last (suc from) voices spine others (omega arith) later)
            ∙ append-nil (own spine (map (span_event from) spans))
            ∙ ap (λ s. own spine (map (span_event s) spans)) same
            ∙ own_all spine spans;
      })
]

-- ---- what is made of them

module _ (resolution channel : ℕ) where
  abbrev made_of : KernEvent → List Event
  made_of e = strokes_events channel (event_strokes resolution e.span)

  own_made : (spine : ℕ) (events : List KernEvent) → spine_events resolution events spine channel ≡ flat_map made_of (own spine events)
  own_made spine [] = refl
  own_made spine (e ∷ events) = go (of_spine spine e) (own_made spine events)
    where
      go : (b : Bool) → spine_events resolution events spine channel ≡ flat_map made_of (own spine events)
          → (if b then made_of e else []) ++ spine_events resolution events spine channel ≡ flat_map made_of (if b then e ∷ own spine events else own spine events)
      go true rest = ap (λ (es : List Event). made_of e ++ es) rest
      go false rest = rest

  of_spans : (spine : ℕ) (spans : List Span) → flat_map made_of (map (span_event spine) spans) ≡ strokes_events channel (voice_strokes resolution spans)
  of_spans spine [] = refl
  of_spans spine (x ∷ spans) =
      ap (λ (es : List Event). strokes_events channel (event_strokes resolution x) ++ es) (of_spans spine spans)
      ∙ sym (flat_map-append (λ s. map event_of (stroke_messages channel s)) (event_strokes resolution x) (voice_strokes resolution spans))

  map_append : (ms ns : List Message) → map event_of (ms ++ ns) ≡ map event_of ms ++ map event_of ns
  map_append [] ns = refl
  map_append (m ∷ ms) ns = ap (λ (es : List Event). event_of m ∷ es) (map_append ms ns)

  all_events : (strokes : List Stroke) → strokes_events channel strokes ≡ map event_of (all_of channel strokes)
  all_events [] = refl
  all_events (s ∷ strokes) =
      ap (λ (es : List Event). map event_of (stroke_messages channel s) ++ es) (all_events strokes) ∙ sym (map_append (stroke_messages channel s) (all_of channel strokes))

  notes_of_spans : (spine : ℕ) (spans : List Span) → flat_map (λ e. event_notes resolution channel e.span) (map (span_event spine) spans) ≡ flat_map (event_notes resolution channel) spans
  notes_of_spans spine [] = refl
  notes_of_spans spine (x ∷ spans) = ap (λ (ns : List Note). event_notes resolution channel x ++ ns) (notes_of_spans spine spans)

  module _ (last spine : ℕ) (events : List KernEvent) (h : HasSpans resolution last spine events) where
    pub events_are : spine_events resolution events spine channel ≡ map event_of (all_of channel (voice_strokes resolution h.spans))
    events_are = own_made spine events ∙ ap (flat_map made_of) h.are ∙ of_spans spine h.spans ∙ all_events (voice_strokes resolution h.spans)

    pub notes_are : spine_notes resolution channel spine events ≡ flat_map (event_notes resolution channel) h.spans
    notes_are = ap (flat_map (λ e. event_notes resolution channel e.span)) h.are ∙ notes_of_spans spine h.spans

    pub spine_kept : AreKept (spine_notes resolution channel spine events) (notes_of channel (voice_strokes resolution h.spans))
    spine_kept = subst (λ (ns : List Note). AreKept ns (notes_of channel (voice_strokes resolution h.spans))) (sym notes_are) (voice_kept resolution channel last h.spans h.voice)

    pub is_voice : IsVoiceTrack resolution events spine channel (spine_events resolution events spine channel)
    is_voice = (
      notes_of channel (voice_strokes resolution h.spans),
      spine_kept,
      subst (AreMessages (notes_of channel (voice_strokes resolution h.spans))) (sym events_are) (voice_messages resolution channel last h.spans h.voice),
    )

    pub spine_timed : AreTimed 0 (spine_events resolution events spine channel) last
    spine_timed = subst (λ (es : List Event). AreTimed 0 es last) (sym events_are) (voice_timed resolution channel last h.spans h.voice)

    pub spine_stands : channel < 16 → All (CanStand resolution channel last) (spine_events resolution events spine channel)
    spine_stands small = subst (All (CanStand resolution channel last)) (sym events_are) (voice_stands resolution channel last h.spans small h.voice)

-- the tracks of all voices
pub are_voices : (resolution last voices spine : ℕ) (events : List KernEvent) (channels : List ℕ) → 1 ≤ spine → spine + length channels ≤ 1 + voices → AreVoiceEventsFrom resolution last 1 voices events
    → AreVoicesFrom resolution events spine channels (voices_from resolution events spine channels)
are_voices resolution last voices spine events [] some few h = refl
are_voices resolution last voices spine events (channel ∷ channels) some few h = (
  spine_events resolution events spine channel,
  voices_from resolution events (suc spine) channels,
  is_voice resolution channel last spine events (spine_spans resolution last 1 voices spine events some (omega arith) h),
  are_voices resolution last voices (suc spine) events channels (omega arith) (omega arith) h,
  refl,
)

-- ---- each event can be played

pub record IsPlayable (resolution last : ℕ) (e : KernEvent) : Type 0 where
  pub span : IsVoiceSpan resolution e.span
  pub early : end_parts resolution e.span ≤ last

follow_within : (resolution last from : ℕ) (spans : List Span) → FollowFrom resolution last from spans → from ≤ last
follow_within resolution last from [] h = h
follow_within resolution last from (x ∷ spans) h = omega (arith, h.0, follow_within resolution last (end_parts resolution x) spans h.1)

spans_playable : (resolution last from spine : ℕ) (spans : List Span) → All (IsVoiceSpan resolution) spans → FollowFrom resolution last from spans → All (IsPlayable resolution last) (map (span_event spine) spans)
spans_playable resolution last from spine [] each follow = λ k d lt. absurd (omega arith)
spans_playable resolution last from spine (x ∷ spans) each follow =
    all_cons (IsPlayable resolution last) (span_event spine x) (map (span_event spine) spans)
    (record { span = all_head (IsVoiceSpan resolution) x spans each; early = follow_within resolution last (end_parts resolution x) spans follow.1 })
    (spans_playable resolution last (end_parts resolution x) spine spans (all_tail (IsVoiceSpan resolution) x spans each) follow.1)

pub all_playable : (resolution last from voices : ℕ) (events : List KernEvent) → AreVoiceEventsFrom resolution last from voices events → All (IsPlayable resolution last) events
all_playable resolution last from zero events h = subst (All (IsPlayable resolution last)) (sym h) (λ k d lt. absurd (omega arith))
all_playable resolution last from (suc voices) events (spans, others, voice, later, is) =
    subst (All (IsPlayable resolution last)) (sym is)
    (All-append (IsPlayable resolution last) (map (span_event from) spans) others (spans_playable resolution last 0 from spans voice.each voice.follow)
    (all_playable resolution last (suc from) voices others later))
