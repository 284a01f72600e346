-- Events as a writer takes them: in each voice spans that follow one another, up to the last barline.
use Rattle.std.specs.Prelude.{◌≡◌, ℕ, ◌*◌, ◌≤◌, All, List, [], ◌∷◌, ◌++◌, length, map}
use Rattle.std.proofs.Common.{zero, suc}
use Rattle.rhythm_base.specs.declared.span.Span.{Span}
use Rattle.derivation.specs.declared.score.ScoreBar.{ScoreBar}
use Rattle.derivation.specs.WellSounded.{AreKeys}
use Rattle.voice_events.specs.declared.event.KernEvent.{KernEvent}
use Rattle.voice_events.specs.Events.{span_event}
use Rattle.voice_events.specs.Parts.{IsWhole, end_parts, len_parts, score_parts, start_parts}

-- a span of whole parts, one at least, has some keys and at most three grace chords, each of some keys
pub record IsVoiceSpan (resolution : ℕ) (x : Span) : Type 0 where
  pub start : IsWhole (64 * resolution) x.start
  pub len : IsWhole (64 * resolution) x.len
  pub long : 1 ≤ len_parts resolution x
  pub keys : AreKeys x.keys
  pub few_graces : length x.graces ≤ 3
  pub graces : All AreKeys x.graces

-- each span begins where the one before ends or later, the first at `from` or later, and the last ends by `end`
abbrev pub FollowFrom : ℕ → ℕ → ℕ → List Span → Type 0
FollowFrom resolution end from [] = from ≤ end
FollowFrom resolution end from (x ∷ spans) = (from ≤ start_parts resolution x) × FollowFrom resolution end (end_parts resolution x) spans

-- the spans of a voice, from the beginning of the score up to its last barline
pub record AreOfVoice (resolution end : ℕ) (spans : List Span) : Type 0 where
  pub each : All (IsVoiceSpan resolution) spans
  pub follow : FollowFrom resolution end 0 spans

-- the spans of so many voices, voice after voice, as events of the spines from this number on
abbrev pub AreVoiceEventsFrom : ℕ → ℕ → ℕ → ℕ → List KernEvent → Type 0
AreVoiceEventsFrom resolution end spine zero events = events ≡ []
AreVoiceEventsFrom resolution end spine (suc voices) events =
    (spans : List Span) × (others : List KernEvent) × AreOfVoice resolution end spans
    × AreVoiceEventsFrom resolution end (suc spine) voices others × (events ≡ map (span_event spine) spans ++ others)

-- spines are numbered from 1
abbrev pub AreVoiceEvents : ℕ → List ScoreBar → ℕ → List KernEvent → Type 0
AreVoiceEvents resolution bars voices events = AreVoiceEventsFrom resolution (score_parts resolution bars) 1 voices events
