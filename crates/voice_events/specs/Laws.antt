-- The laws, each as one statement over the definitions.
use Rattle.std.specs.Prelude.{◌≡◌, ◌≤◌, ℕ, List, length}
use Rattle.std.specs.Int.{◌∣◌}
use Rattle.rhythm_base.specs.declared.note.Bar.{Bar}
use Rattle.rhythm_base.specs.declared.span.Frac.{Frac}
use Rattle.durations.specs.Spans.{IsFrac}
use Rattle.derivation.specs.Score.{IsScore, Score}
use Rattle.voice_events.specs.declared.event.KernEvent.{KernEvent}
use Rattle.voice_events.specs.Events.{AreScoreEvents, AreVoiceSpans, HaveSignatures}
use Rattle.voice_events.specs.Parts.{frac_parts}
use Rattle.voice_events.specs.VoiceEvents.{AreVoiceEvents}

-- n / d in lowest terms is n parts of 1/d, and its denominator divides d
abbrev pub PartsAreCounted : Type 0
PartsAreCounted = (n d : ℕ) (f : Frac) → IsFrac n d f → (f.den ∣ d) × (frac_parts d f ≡ n)

-- what the spans of a score are over some bars of its signatures, they are over all
abbrev pub SignaturesDecideEvents : Type 0
SignaturesDecideEvents =
    (s : Score) (bars : List Bar) (events : List KernEvent) → HaveSignatures s.bars bars
    → AreVoiceSpans s.resolution bars 1 s.voices events → AreScoreEvents s events

-- a score has at most one list of events
abbrev pub ScoreEventsAreOne : Type 0
ScoreEventsAreOne = (s : Score) (a b : List KernEvent) → 1 ≤ s.resolution → AreScoreEvents s a → AreScoreEvents s b → a ≡ b

-- and at least one
abbrev pub ScoreEventsExist : Type 0
ScoreEventsExist = (s : Score) → 1 ≤ s.resolution → (events : List KernEvent) × AreScoreEvents s events

-- the events of a score that can be written follow one another in each voice
abbrev pub ScoreEventsAreVoiceEvents : Type 0
ScoreEventsAreVoiceEvents =
    (s : Score) (events : List KernEvent) → IsScore s → AreScoreEvents s events
    → AreVoiceEvents s.resolution s.bars (length s.voices) events
