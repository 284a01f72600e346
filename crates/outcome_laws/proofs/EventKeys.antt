-- The events of columns have no more keys than the columns.
use Rattle.std.proofs.Common.{◌≡◌, ◌+◌, ◌≤◌, ◌||◌, not, ℕ, suc, Bool, true, false, List, [], ◌∷◌, ◌++◌, map, ap, arith}
use Rattle.std.specs.Prelude.{if◌then◌else◌}
use Rattle.std.specs.List.{flat_map}
use Rattle.std.proofs.lemmas.List.Sums.{take_while-cons}
use Rattle.kern_reader.proofs.SpineLemmas.{waiting_chord, waiting_grace, waiting_null, waiting_rest}
use Rattle.kern_reader.specs.Columns.{continues, grace_keys, has_value, is_bar, waiting}
use Rattle.kern_reader.specs.Events.{AreEvents, AreEventsFrom, Beginning, IsKernSpan, beginnings}
use Rattle.voice_events.specs.Events.{span_event}
use Rattle.kern_reader.specs.Score.{KernColumns}
use Rattle.voice_events.specs.declared.event.KernEvent.{KernEvent}
use Rattle.text_words.specs.declared.time_signature.TimeSignature.{TimeSignature}
use Rattle.kern_reader.specs.declared.token.Token.{Token}
use Rattle.kern_reader.specs.declared.token.Token.TheVariants as token
use Rattle.rhythm_base.specs.declared.span.Span.{Span}
use Rattle.rhythm_base.specs.Lists.{Each}
use Rattle.outcome_laws.proofs.KeyCounts.{key_count, total, total_append, total_map, total_reverse}
use Rattle.outcome_laws.proofs.TextWeights.{columns_keys, tokens_keys}

-- how many keys a span has, with its grace chords
abbrev pub span_keys : Span → ℕ
span_keys x = key_count x.keys + total key_count x.graces

abbrev waiting_keys : List Token → ℕ
waiting_keys before = total key_count (waiting before)

abbrev beginning_keys : Beginning → ℕ
beginning_keys b = key_count b.keys + waiting_keys b.before

-- no grace chord waits after a barline
waiting_bar : (signature : TimeSignature) (before : List Token) → waiting (token.Bar signature ∷ before) ≡ []
waiting_bar signature before = ap (flat_map grace_keys) (take_while-cons (λ t. not (is_bar t || has_value t)) (token.Bar signature) before)

-- a grace chord waits for one span at most
few_begin : (before after : List Token) → total beginning_keys (beginnings before after) ≤ waiting_keys before + tokens_keys after
few_begin before [] = omega arith
few_begin before (token.Bar signature ∷ after) =
    let rest = few_begin (token.Bar signature ∷ before) after in
    let none = ap (total key_count) (waiting_bar signature before) in
    omega (arith, rest, none)
few_begin before (token.Null ∷ after) =
    let rest = few_begin (token.Null ∷ before) after in
    let same = ap (total key_count) (waiting_null before) in
    omega (arith, rest, same)
few_begin before (token.Rest value ∷ after) =
    let rest = few_begin (token.Rest value ∷ before) after in
    let none = ap (total key_count) (waiting_rest value before) in
    omega (arith, rest, none)
few_begin before (token.Grace keys ∷ after) =
    let rest = few_begin (token.Grace keys ∷ before) after in
    let more = ap (total key_count) (waiting_grace keys before) in
    omega (arith, rest, more)
few_begin before (token.Chord writing keys ∷ after) =
    let rest = few_begin (token.Chord writing keys ∷ before) after in
    let none = ap (total key_count) (waiting_chord writing keys before) in
    go (continues writing) (omega (arith, rest, none))
  where
    own : Beginning
    own = record { before = before; writing = writing; keys = keys; after = after }

    later : List Beginning
    later = beginnings (token.Chord writing keys ∷ before) after

    go : (b : Bool) → total beginning_keys later ≤ tokens_keys after → total beginning_keys ((if b then [] else own ∷ []) ++ later) ≤ waiting_keys before + (key_count keys + tokens_keys after)
    go true rest = omega (arith, rest)
    go false rest = omega (arith, rest)

spans_few : (grid : ℕ) (bs : List Beginning) (spans : List Span) → Each (IsKernSpan grid) bs spans → total span_keys spans ≡ total beginning_keys bs
spans_few grid [] spans e = ap (total span_keys) e
spans_few grid (b ∷ bs) [] e = absurd e
spans_few grid (b ∷ bs) (x ∷ spans) (is, later) =
    let rest = spans_few grid bs spans later in
    let keys = ap key_count is.keys in
    let graces = ap (total key_count) is.graces in
    let turned = total_reverse key_count (waiting b.before) in
    omega (arith, rest, keys, graces, turned)

events_few : (grid spine : ℕ) (columns : List (List Token)) (events : List KernEvent) → AreEventsFrom grid spine columns events
    → total (λ (e : KernEvent). span_keys e.span) events ≤ columns_keys columns
events_few grid spine [] events e = let none = ap (total (λ (e : KernEvent). span_keys e.span)) e in omega (arith, none)
events_few grid spine (column ∷ columns) events (spans, others, own, later, e) =
    let all = ap (total (λ (e : KernEvent). span_keys e.span)) e in
    let both = total_append (λ (e : KernEvent). span_keys e.span) (map (span_event spine) spans) others in
    let mapped = total_map (λ (e : KernEvent). span_keys e.span) (span_event spine) spans in
    let same = spans_few grid (beginnings [] column) spans own in
    let few = few_begin [] column in
    let rest = events_few grid (suc spine) columns others later in
    omega (arith, all, both, mapped, same, few, rest)

pub score_events_few : (score : KernColumns) (events : List KernEvent) → AreEvents score events → total (λ (e : KernEvent). span_keys e.span) events ≤ columns_keys score.columns
score_events_few score events are = events_few score.grid 1 score.columns events are
