-- The laws, each as one statement over the definitions.
use Rattle.rhythm_base.specs.declared.limits.TheConstants.{MOST_UNITS}
use Rattle.std.specs.Prelude.{◌≡◌, ◌↔◌, ℕ, ◌*◌, ◌≤◌, All, List, length, Some}
use Rattle.rhythm_base.specs.declared.note.Bar.{Bar}
use Rattle.rhythm_base.specs.declared.sound.Sound.{Sound}
use Rattle.rhythm_base.specs.declared.span.Span.{Span}
use Rattle.rhythm_base.specs.Lists.{Each}
use Rattle.durations.specs.Spans.{AreSpans}
use Rattle.derivation.specs.declared.score.ScoreBar.{ScoreBar}
use Rattle.derivation.specs.Score.{IsScoreBar, Score}
use Rattle.derivation.specs.WellSounded.{AreWellSounded}
use Rattle.voice_events.specs.Events.{AreScoreEvents, HaveSignatures}
use Rattle.voice_values.specs.Values.{AreVoiceValues, VoiceValue}
use Rattle.notation.specs.Bars.{AreVoiceGroups}
use Rattle.notation.specs.Notes.{Group}
use Rattle.notation_laws.specs.Columns.{AreGroupsOfValues}
use Rattle.notation_laws.specs.Hearing.{HeardSpan, unheard}
use Rattle.notation_laws.specs.NotesHeard.{AreHeardInFull, IsSpanHeard, voice_heard}
use Rattle.notation_laws.specs.VoicesEvents.{voices_events}
use Rattle.notation_laws.specs.Written.{IsWrittenGroup}

-- a voice whose sounds can be written over these bars
pub record IsVoice (resolution : ℕ) (bars : List ScoreBar) (sounds : List Sound) : Type 0 where
  pub some_unit : 1 ≤ resolution
  pub few_units : resolution ≤ MOST_UNITS
  pub each_bar : All IsScoreBar bars
  pub well : AreWellSounded resolution (length bars) sounds

-- what is heard of the groups of a voice are its spans over these bars
pub record IsHeard (resolution : ℕ) (sbars : List ScoreBar) (bars : List Bar) (sounds : List Sound)
    (all : List (List Group)) : Type 0 where
  pub heard : List (HeardSpan ℕ)
  pub hears : voice_heard resolution sbars all ≡ Some heard
  pub spans : (spans : List Span)
      → Each (IsSpanHeard (64 * resolution)) heard spans ↔ AreSpans resolution bars sounds spans

-- so it is of each voice that can be written
abbrev pub VoicesAreHeard : Type 0
VoicesAreHeard =
    (resolution : ℕ) (sbars : List ScoreBar) (bars : List Bar) (sounds : List Sound) (all : List (List Group))
    → IsVoice resolution sbars sounds
    → HaveSignatures sbars bars → AreVoiceGroups resolution 0 sbars sounds all
    → IsHeard resolution sbars bars sounds all

-- each bar of a voice is heard in full
abbrev pub BarsAreHeardInFull : Type 0
BarsAreHeardInFull =
    (resolution : ℕ) (bars : List ScoreBar) (sounds : List Sound) (all : List (List Group))
    → IsVoice resolution bars sounds
    → AreVoiceGroups resolution 0 bars sounds all → AreHeardInFull resolution bars (unheard 0) all

-- the notes of a voice can be written
abbrev pub NotesCanBeWritten : Type 0
NotesCanBeWritten =
    (resolution : ℕ) (bars : List ScoreBar) (sounds : List Sound) (all : List (List Group))
    → IsVoice resolution bars sounds
    → AreVoiceGroups resolution 0 bars sounds all → All (All (IsWrittenGroup resolution)) all

-- The spans of the voices of a score are its events. So what is read of a text as these spans says the same music as
-- every other form of the score
abbrev pub SpansAreTheEvents : Type 0
SpansAreTheEvents =
    (s : Score) (bars : List Bar) (all : List (List Span)) → HaveSignatures s.bars bars
    → Each (AreSpans s.resolution bars) s.voices all → AreScoreEvents s (voices_events 1 all)

-- the groups of a voice are those of the values of its **kern column
abbrev pub GroupsAreOfTheColumn : Type 0
GroupsAreOfTheColumn =
    (resolution : ℕ) (bars : List ScoreBar) (sounds : List Sound) (values : List (List VoiceValue))
    (all : List (List Group))
    → IsVoice resolution bars sounds → AreVoiceValues resolution 0 bars sounds values
    → AreVoiceGroups resolution 0 bars sounds all
    → AreGroupsOfValues resolution bars values all
