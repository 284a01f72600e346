-- The events of a score: the sounding spans of each spine.
use Rattle.std.specs.Prelude.{◌≡◌, ℕ, suc, ◌+◌, ◌*◌, ◌/◌, Bool, true, false, if◌then◌else◌, List, [], ◌∷◌, ◌++◌, drop, map, reverse, sum, sum_by, take, take_while}
use Rattle.std.specs.List.{flat_map}
use Rattle.rhythm_base.specs.declared.span.Span.{Span}
use Rattle.rhythm_base.specs.Lists.{Each}
use Rattle.durations.specs.Spans.{IsFrac}
use Rattle.durations.specs.declared.value.Value.{Value}
use Rattle.durations.specs.Value.{width}
use Rattle.voice_events.specs.declared.event.KernEvent.{KernEvent}
use Rattle.voice_events.specs.Events.{span_event}
use Rattle.kern_reader.specs.declared.events.Walk.{Walk}
use Rattle.text_words.specs.declared.time_signature.TimeSignature.{TimeSignature}
use Rattle.kern_reader.specs.declared.token.Token.{Token}
use Rattle.kern_reader.specs.declared.token.Token.TheVariants as token
use Rattle.kern_reader.specs.declared.token.Writing.{Writing}
use Rattle.kern_reader.specs.Columns.{continues, place, token_values, waiting}
use Rattle.kern_reader.specs.Score.{KernColumns}

-- ---- places from the beginning of the score. The tokens before stand last first

-- the length of a bar, in 64 parts of a whole note
abbrev pub bar_parts : TimeSignature → ℕ
bar_parts signature = signature.num * (64 / signature.den)

abbrev pub token_bars : Token → List ℕ
token_bars (token.Bar signature) = bar_parts signature ∷ []
token_bars _ = []

-- the bars that begin before, last first
abbrev pub bars : List Token → List ℕ
bars before = flat_map token_bars before

-- where the last of them begins: after all the others
abbrev pub bar_start : List Token → ℕ
bar_start before = sum (drop 1 (bars before))

-- in parts of 1/(64 * grid) of a whole note
abbrev pub token_place : ℕ → List Token → ℕ
token_place grid before = grid * bar_start before + 64 * place grid before

-- ---- spans

-- a chord that does not continue a tie begins a span: the tokens before it, last first, and those after it
pub record Beginning : Type 0 where
  pub before : List Token
  pub writing : Writing
  pub keys : ℕ
  pub after : List Token

abbrev pub beginning : List Token → Token → List Token → List Beginning
beginning before (token.Chord writing keys) after =
    if continues writing then [] else record { before = before; writing = writing; keys = keys; after = after } ∷ []
beginning before _ after = []

abbrev pub beginnings : List Token → List Token → List Beginning
beginnings before [] = []
beginnings before (t ∷ after) = beginning before t after ++ beginnings (t ∷ before) after

-- a token does not end a tie: it has no value, or its value continues it
abbrev pub holds_tie : Token → Bool
holds_tie (token.Bar signature) = true
holds_tie token.Null = true
holds_tie (token.Rest value) = false
holds_tie (token.Grace keys) = true
holds_tie (token.Chord writing keys) = continues writing

-- the values of the chords after it that continue its tie, across barlines
abbrev pub tied_values : List Token → List Value
tied_values after = flat_map token_values (take_while holds_tie after)

-- the span has the keys, the grace chords and the mark of its first chord, and sounds as long as all of it
pub record IsKernSpan (grid : ℕ) (b : Beginning) (x : Span) : Type 0 where
  pub start : IsFrac (token_place grid b.before) (64 * grid) x.start
  pub len : IsFrac (width grid b.writing.value + sum_by (width grid) (tied_values b.after)) grid x.len
  pub keys : x.keys ≡ b.keys
  pub graces : x.graces ≡ reverse (waiting b.before)
  pub short : x.short ≡ b.writing.short

abbrev pub AreColumnSpans : ℕ → List Token → List Span → Type 0
AreColumnSpans grid column spans = Each (IsKernSpan grid) (beginnings [] column) spans

-- ---- events

-- the spans of the spines from this number on, spine after spine
abbrev pub AreEventsFrom : ℕ → ℕ → List (List Token) → List KernEvent → Type 0
AreEventsFrom grid spine [] events = events ≡ []
AreEventsFrom grid spine (column ∷ columns) events =
    (spans : List Span) × (others : List KernEvent) × AreColumnSpans grid column spans
    × AreEventsFrom grid (suc spine) columns others × (events ≡ map (span_event spine) spans ++ others)

-- spines are numbered from 1
abbrev pub AreEvents : KernColumns → List KernEvent → Type 0
AreEvents score events = AreEventsFrom score.grid 1 score.columns events

-- ---- on the way through a column

-- what is known before a token
pub record IsWalk (grid : ℕ) (before : List Token) (w : Walk) : Type 0 where
  pub start : w.start ≡ bar_start before
  pub bar : w.bar ≡ sum (take 1 (bars before))
  pub place : w.place ≡ place grid before
  pub graces : w.graces.items ≡ reverse (waiting before)

-- a token is passed
abbrev pub Passes : ℕ → Token → Walk → Walk → Type 0
Passes grid t old new = (before : List Token) → IsWalk grid before old → IsWalk grid (t ∷ before) new

-- the span of a chord that begins here, before these tokens
abbrev pub IsSpanHere : ℕ → Walk → Writing → ℕ → List Token → Span → Type 0
IsSpanHere grid w writing keys after x =
    (before : List Token) → IsWalk grid before w → IsKernSpan grid (record { before = before; writing = writing; keys = keys; after = after }) x

-- the event of the span that begins here with a token is added, where one does
abbrev pub AddsEvent : ℕ → ℕ → Walk → Token → List Token → List KernEvent → List KernEvent → Type 0
AddsEvent grid spine w t after old new =
    (before : List Token) → IsWalk grid before w
    → (own : List Span) × (new ≡ old ++ map (span_event spine) own) × Each (IsKernSpan grid) (beginning before t after) own

-- and those of all spans of a column
abbrev pub AddsColumn : ℕ → ℕ → List Token → List KernEvent → List KernEvent → Type 0
AddsColumn grid spine column old new = (spans : List Span) × AreColumnSpans grid column spans × (new ≡ old ++ map (span_event spine) spans)
