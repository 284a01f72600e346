-- The lines of the events of a column, one after another.
use Rattle.std.proofs.Common.{◌≡◌, ℕ, List, ◌++◌, map, sym, ap, ◌∙◌, append_assoc}
use Rattle.std.proofs.lemmas.Grind.{flat_map-append}
use Rattle.std.proofs.lemmas.List.{map-append}
use Rattle.rhythm_base.specs.declared.span.Span.{Span}
use Rattle.voice_events.specs.declared.event.KernEvent.{KernEvent}
use Rattle.voice_events.specs.Events.{span_event}
use Rattle.kern_reader.specs.EventText.{event_text, events_text}

-- the lines so far, with those of the events that begin at one more token
pub lines_next : (spine : ℕ) (first now new : List ℕ) (spans own : List Span) (events : List KernEvent) → now ≡ first ++ events_text (map (span_event spine) spans)
    → events ≡ map (span_event spine) own → new ≡ now ++ events_text events → new ≡ first ++ events_text (map (span_event spine) (spans ++ own))
lines_next spine first now new spans own events before are pushed =
    let done : List KernEvent = map (span_event spine) spans in
    let more : List KernEvent = map (span_event spine) own in
    pushed ∙ ap (λ es. now ++ events_text es) are ∙ ap (λ t. t ++ events_text more) before ∙ append_assoc first (events_text done) (events_text more)
    ∙ ap (λ t. first ++ t) (sym (ap events_text (map-append (span_event spine) spans own) ∙ flat_map-append event_text done more))
