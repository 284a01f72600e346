-- The first of the events of a voice that have not ended.
use Rattle.std.proofs.Common.{◌≡◌, ℕ, ◌^◌, ◌≤◌, ◌<◌, Bool, List, [], ◌∷◌, drop, get_or, length, refl, sym, subst, arith}
use Rattle.std.proofs.lemmas.List.Elements.{All-head}
use Rattle.voice_events.specs.declared.event.KernEvent.{KernEvent}
use Rattle.voice_events.specs.Parts.{end_parts, start_parts}
use Rattle.voice_events.specs.VoiceEvents.{IsVoiceSpan}
use Rattle.voice_events.proofs.SpanEnds.{from_within}
use Rattle.lily_writer.specs.Pieces.{bar_gap, bar_pieces, sounding}
use Rattle.lily_writer.specs.Staves.{spans_of}
use Rattle.lily_writer.specs.Writing.{Ahead, EndsAfter, HasPassed, IsAhead, WritesPieces, stretches_ahead}
use Rattle.lily_writer.proofs.Stretches.{front_written, passed_more}

abbrev pub ahead_of : List KernEvent → ℕ → ℕ → Ahead
ahead_of events at end = record { spans = spans_of events; at = at; end = end }

spans_next : (events more : List KernEvent) (e : KernEvent) → 1 ≤ length events → more ≡ drop 1 events → e ≡ get_or events 0 e
    → spans_of events ≡ e.span ∷ spans_of more
spans_next [] more e some rest first = absurd (omega (arith, some))
spans_next (d ∷ events) more e some rest first = λ i. (sym first i).span ∷ spans_of (sym rest i)

pub next_span : (resolution : ℕ) (events : List KernEvent) (at end : ℕ) (e : KernEvent) → 1 ≤ length events → e ≡ get_or events 0 e
    → IsAhead resolution (ahead_of events at end)
    → IsVoiceSpan resolution e.span × (end_parts resolution e.span < 2 ^ 60)
next_span resolution events at end e some first is =
    let same = spans_next events (drop 1 events) e some refl first in
    let there : IsAhead resolution (record { spans = e.span ∷ spans_of (drop 1 events); at = at; end = end }) =
    subst (λ xs. IsAhead resolution (record { spans = xs; at = at; end = end })) same is in
    let within = from_within resolution end (end_parts resolution e.span) (spans_of (drop 1 events)) there.follow.1 in
    (All-head (IsVoiceSpan resolution) e.span (spans_of (drop 1 events)) there.each, omega (arith, within, is.small))

pub event_passed : (resolution from to : ℕ) (flats : Bool) (before : Ahead) (events more : List KernEvent) (at next end : ℕ)
    (e : KernEvent) (text first second new : List ℕ)
    → 1 ≤ length events → more ≡ drop 1 events → e ≡ get_or events 0 e → next ≡ end_parts resolution e.span
    → HasPassed resolution from to flats before (ahead_of events at end) text first → next ≤ to
    → WritesPieces resolution flats (bar_pieces from to (bar_gap at (start_parts resolution e.span) ∷ [])) first second
    → WritesPieces resolution flats (bar_pieces from to (sounding resolution e.span ∷ [])) second new
    → HasPassed resolution from to flats before (ahead_of more next end) text new
event_passed resolution from to flats before events more at next end e text first second new some rest is ending h ends one two =
    let same = spans_next events more e some rest is in
    subst (λ n. HasPassed resolution from to flats before (ahead_of more n end) text new) (sym ending)
    (passed_more resolution from to flats before at end e.span (spans_of more) text first second new
    (subst (λ xs. HasPassed resolution from to flats before (record { spans = xs; at = at; end = end }) text first) same h)
    (omega (arith, ends, ending)) one two)

pub front_of_events : (resolution from to : ℕ) (flats : Bool) (events : List KernEvent) (at end : ℕ) (e : KernEvent)
    (text middle new : List ℕ)
    → 1 ≤ length events → e ≡ get_or events 0 e → IsAhead resolution (ahead_of events at end) → EndsAfter resolution to (spans_of events)
    → WritesPieces resolution flats (bar_pieces from to (bar_gap at (start_parts resolution e.span) ∷ [])) text middle
    → WritesPieces resolution flats (bar_pieces from to (sounding resolution e.span ∷ [])) middle new
    → WritesPieces resolution flats (bar_pieces from to (stretches_ahead resolution (ahead_of events at end))) text new
front_of_events resolution from to flats events at end e text middle new some is ahead after one two =
    let same = spans_next events (drop 1 events) e some refl is in
    let there = subst (λ xs. IsAhead resolution (record { spans = xs; at = at; end = end })) same ahead in
    let ends = subst (EndsAfter resolution to) same after in
    subst (λ xs. WritesPieces resolution flats (bar_pieces from to (stretches_ahead resolution (record { spans = xs; at = at; end = end }))) text
    new) (sym same)
    (front_written resolution from to flats at end e.span (spans_of (drop 1 events)) text middle new there ends one two)

pub ends_after : (resolution to : ℕ) (events : List KernEvent) (e : KernEvent) → 1 ≤ length events → e ≡ get_or events 0 e
    → to < end_parts resolution e.span
    → EndsAfter resolution to (spans_of events)
ends_after resolution to events e some is after =
    subst (EndsAfter resolution to) (sym (spans_next events (drop 1 events) e some refl is)) after

-- after the last event
pub end_of_events : (resolution from to : ℕ) (flats : Bool) (events : List KernEvent) (at end : ℕ) (text new : List ℕ) → length events < 1
    → WritesPieces resolution flats (bar_pieces from to (bar_gap at end ∷ [])) text new
    → WritesPieces resolution flats (bar_pieces from to (stretches_ahead resolution (ahead_of events at end))) text new
end_of_events resolution from to flats [] at end text new none written = written
end_of_events resolution from to flats (e ∷ events) at end text new none written = absurd (omega (arith, none))
