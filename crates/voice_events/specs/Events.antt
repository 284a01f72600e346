-- The events of a score: the spans of the sounds of its voices.
use Rattle.std.specs.Prelude.{◌≡◌, ℕ, List, [], ◌∷◌, ◌++◌, Vec, map}
use Rattle.std.proofs.Common.{suc}
use Rattle.rhythm_base.specs.declared.note.Bar.{Bar}
use Rattle.rhythm_base.specs.declared.sound.Sound.{Sound}
use Rattle.rhythm_base.specs.declared.span.Span.{Span}
use Rattle.durations.specs.Spans.{AreSpans}
use Rattle.derivation.specs.declared.score.ScoreBar.{ScoreBar}
use Rattle.derivation.specs.Score.{Score}
use Rattle.voice_events.specs.declared.event.KernEvent.{KernEvent}

abbrev pub span_event : ℕ → Span → KernEvent
span_event spine span = record { spine = spine; span = span }

-- the spans of the sounds of a voice stand after other events, as events of its spine
abbrev pub AddsEventsOf : {A : Type 0} → List Sound → ℕ → ℕ → List Bar → Vec KernEvent A → Vec KernEvent A → Type 0
AddsEventsOf sounds spine resolution bars before after =
    (spans : List Span) × AreSpans resolution bars sounds spans × (after.items ≡ before.items ++ map (span_event spine) spans)

-- the bars of a performance have the signatures of those of a score
abbrev pub HaveSignatures : List ScoreBar → List Bar → Type 0
HaveSignatures sbars bars = map {B = ℕ × ℕ} (λ b. (b.num, b.den)) bars ≡ map {B = ℕ × ℕ} (λ b. (b.num, b.den)) sbars

-- the spans of the voices, voice after voice, as events of the spines from this number on
abbrev pub AreVoiceSpans : ℕ → List Bar → ℕ → List (List Sound) → List KernEvent → Type 0
AreVoiceSpans resolution bars spine [] events = events ≡ []
AreVoiceSpans resolution bars spine (sounds ∷ voices) events =
    (spans : List Span) × (others : List KernEvent) × AreSpans resolution bars sounds spans
    × AreVoiceSpans resolution bars (suc spine) voices others × (events ≡ map (span_event spine) spans ++ others)

-- the events of a score: the spans of its voices over any bars of its signatures, with the spines numbered from 1
abbrev pub AreScoreEvents : Score → List KernEvent → Type 0
AreScoreEvents s events = (bars : List Bar) → HaveSignatures s.bars bars → AreVoiceSpans s.resolution bars 1 s.voices events
