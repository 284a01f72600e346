-- The laws, each as one statement over the definitions.
use Rattle.std.specs.Prelude.{◌≡◌, ℕ, ◌-◌, false, List, [], codes, position, Some, map}
use Rattle.std.specs.Str.{bytes_eq}
use Rattle.rhythm_base.specs.declared.note.Bar.{Bar}
use Rattle.rhythm_base.specs.declared.span.Span.{Span}
use Rattle.rhythm_base.specs.Lists.{Each}
use Rattle.durations.specs.Spans.{AreSpans}
use Rattle.derivation.specs.Score.{IsScore, Score}
use Rattle.voice_events.specs.Events.{AreScoreEvents, HaveSignatures}
use Rattle.voice_events.specs.Parts.{score_bar_parts}
use Rattle.musicxml_writer.specs.Text.{IsMusicXml}
use Rattle.notation_laws.specs.VoicesEvents.{voices_events}
use Rattle.xml_laws.specs.Hearing.{HeardPart, IsOfBeats, hear_tag}
use Rattle.xml_laws.specs.Notes.{IsOfValue, ReadNote, kinds}
use Rattle.xml_laws.specs.Reading.{measure_lengths, musicxml_events}

-- a text that is read says the spans of each voice of a score, over these bars
pub record IsTextReadBack (s : Score) (bars : List Bar) (text : List ℕ) : Type 0 where
  pub spans : List (List Span)
  pub read : musicxml_events text ≡ Some spans
  pub are : Each (AreSpans s.resolution bars) s.voices spans

-- the text of a score is read as the spans of its voices
abbrev pub TextsAreReadBack : Type 0
TextsAreReadBack =
    (s : Score) (bars : List Bar) (channels text : List ℕ) → IsScore s → HaveSignatures s.bars bars
    → IsMusicXml s channels text → IsTextReadBack s bars text

-- a text that is read says the events of a score, the spans of a part as those of its voice
pub record SaysTheEvents (s : Score) (text : List ℕ) : Type 0 where
  pub spans : List (List Span)
  pub read : musicxml_events text ≡ Some spans
  pub events : AreScoreEvents s (voices_events 1 spans)

-- so the text of a score says its events
abbrev pub TextsSayTheEvents : Type 0
TextsSayTheEvents = (s : Score) (channels text : List ℕ) → IsScore s → IsMusicXml s channels text → SaysTheEvents s text

-- in each part of the text of a score the durations of a measure are together as long as its bar, in parts of
-- 1/(64 * resolution) of a whole note
abbrev pub BarsAreFull : Type 0
BarsAreFull =
    (s : Score) (channels text : List ℕ) → IsScore s → IsMusicXml s channels text
    → measure_lengths text ≡ Some (map (λ sounds. map (score_bar_parts s.resolution) s.bars) s.voices)

-- a measure that is read is as long as the signature that was said last, and no grace chord waits at its end
pub record IsFullMeasure (h next : HeardPart) : Type 0 where
  pub quarter : ℕ
  pub said : h.divisions ≡ Some quarter
  pub beats : ℕ
  pub of_beats : h.beats ≡ Some beats
  pub beat_type : ℕ
  pub of_type : h.beat_type ≡ Some beat_type
  pub is : IsOfBeats quarter beats beat_type (next.heard.at - h.began)
  pub graces : next.heard.graces ≡ []

-- so it is of each measure of a text that is read
abbrev pub MeasuresAreFull : Type 0
MeasuresAreFull = (h next : HeardPart) → hear_tag h (codes "/measure") ≡ Some next → IsFullMeasure h next

-- a note that is read is as long as its type with its dots says, so many in the time of so many
pub record IsOfItsValue (h : HeardPart) (n : ReadNote) : Type 0 where
  pub quarter : ℕ
  pub said : h.divisions ≡ Some quarter
  pub len : ℕ
  pub long : n.duration ≡ Some len
  pub place : ℕ
  pub kind : position (bytes_eq n.kind) kinds ≡ Some place
  pub is : IsOfValue quarter n len place

-- but for grace notes and rests of a whole measure: so it is of each note of a text that is read
abbrev pub ValuesSayTheirDurations : Type 0
ValuesSayTheirDurations =
    (h next : HeardPart) (n : ReadNote) → h.note ≡ Some n → n.grace ≡ false → n.whole ≡ false → hear_tag h (codes "/note") ≡ Some next
    → IsOfItsValue h n
