-- The laws, each as one statement over the definitions.
use Rattle.std.specs.Prelude.{◌≡◌, ℕ, List, [], Some, length}
use Rattle.rhythm_base.specs.declared.note.Bar.{Bar}
use Rattle.rhythm_base.specs.declared.span.Frac.{Frac}
use Rattle.rhythm_base.specs.declared.span.Span.{Span}
use Rattle.rhythm_base.specs.Lists.{Each}
use Rattle.durations.specs.Spans.{AreSpans}
use Rattle.derivation.specs.Score.{IsScore, Score}
use Rattle.voice_events.specs.Events.{AreScoreEvents, HaveSignatures}
use Rattle.lily_writer.specs.Fractions.{frac_plus}
use Rattle.notation_laws.specs.VoicesEvents.{voices_events}
use Rattle.page_writer.specs.Page.{IsPage}
use Rattle.page_laws.specs.Hearing.{HeardStaff}
use Rattle.page_laws.specs.Reading.{hear_page_bar, page_events}

-- a page that is read says the spans of each voice of a score, over these bars
pub record IsPageReadBack (s : Score) (bars : List Bar) (text : List ℕ) : Type 0 where
  pub spans : List (List Span)
  pub read : page_events text ≡ Some spans
  pub are : Each (AreSpans s.resolution bars) s.voices spans

-- the page of a score, by a channel for each voice, is read as the spans of its voices
abbrev pub PagesAreReadBack : Type 0
PagesAreReadBack =
    (s : Score) (bars : List Bar) (channels text : List ℕ) → IsScore s → HaveSignatures s.bars bars
    → length channels ≡ length s.voices → IsPage s channels text → IsPageReadBack s bars text

-- a page that is read says the events of a score, the spans of a staff as those of its voice
pub record SaysTheEvents (s : Score) (text : List ℕ) : Type 0 where
  pub spans : List (List Span)
  pub read : page_events text ≡ Some spans
  pub events : AreScoreEvents s (voices_events 1 spans)

-- so the page of a score says its events
abbrev pub PagesSayTheEvents : Type 0
PagesSayTheEvents =
    (s : Score) (channels text : List ℕ) → IsScore s → length channels ≡ length s.voices → IsPage s channels text
    → SaysTheEvents s text

-- a bar that is read is as long as its signature says, and no grace chord waits at its end: so it is of each bar of a
-- page that is read
abbrev pub BarsAreFull : Type 0
BarsAreFull =
    (signature : Frac) (before next : HeardStaff) (line : List ℕ) → hear_page_bar signature before line ≡ Some next
    → (next.heard.at ≡ frac_plus before.heard.at signature) × (next.heard.graces ≡ [])
