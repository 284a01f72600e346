-- The laws, each as one statement over the definitions.
use Rattle.std.specs.Prelude.{◌≡◌, ◌↔◌, ℕ, ◌<◌, ◌≤◌, ◌⊎◌, All, Bool, true, false, List, length, Ok, Some}
use Rattle.std.specs.Int.{◌∣◌}
use Rattle.std.specs.List.{flat_map}
use Rattle.rhythm_base.specs.declared.note.Bar.{Bar}
use Rattle.rhythm_base.specs.declared.sound.Sound.{Sound}
use Rattle.rhythm_base.specs.Grammar.{Grammar}
use Rattle.rhythm_base.specs.Performance.{IsWellFormed, Performance}
use Rattle.durations.specs.Pitch.{pitch}
use Rattle.rhythm_base.specs.Readable.{IsReadable}
use Rattle.durations.specs.declared.value.Value.{Value}
use Rattle.derivation.specs.PerformanceScore.{IsScoreOf}
use Rattle.kern_writer.specs.PerformanceText.{IsTextOf}
use Rattle.derivation.specs.Score.{IsScore, Score}
use Rattle.kern_writer.specs.Text.{IsScoreText}
use Rattle.kern_writer.specs.Tokens.{value_text}
use Rattle.voice_events.specs.declared.event.KernEvent.{KernEvent}
use Rattle.kern_reader.specs.Columns.{grid_of, line_values}
use Rattle.kern_reader.specs.Events.{AreEvents}
use Rattle.kern_reader.specs.Outcome.{score_of}
use Rattle.kern_reader.specs.Score.{Counts, IsKernScore, KernColumns}
use Rattle.text_words.specs.Values.{IsWellValue}
use Rattle.kern_reader.specs.Tokens.{pitch_key, value_of}
use Rattle.voice_events.specs.Events.{AreVoiceSpans, HaveSignatures}
use Rattle.kern_laws.specs.Lines.{KernLine}

-- ---- a score that was read

-- a score that is read of a text is in its ranges
abbrev pub ScoresAreInRange : Type 0
ScoresAreInRange = (text : List ℕ) (score : KernColumns) → length text ≤ 4294967294 → score_of text ≡ Ok score → IsKernScore score

-- the grid of lines is the least common multiple: each of their values counts in it, and it divides every number in which all of
-- them count
pub record GridsAreLeast : Type 0 where
  pub counts : (lines : List KernLine) → All (Counts (grid_of lines)) (flat_map line_values lines)
  pub least : (lines : List KernLine) (n : ℕ) → All (Counts n) (flat_map line_values lines) → grid_of lines ∣ n

-- a score that was read has at most one list of events
abbrev pub EventsAreOne : Type 0
EventsAreOne = (s : KernColumns) (a b : List KernEvent) → IsKernScore s → AreEvents s a → AreEvents s b → a ≡ b

-- and at least one
abbrev pub EventsExist : Type 0
EventsExist = (s : KernColumns) → IsKernScore s → (events : List KernEvent) × AreEvents s events

-- ---- pitches and values

-- the pitch that is written of a key is read as this key
abbrev pub PitchesReadBack : Type 0
PitchesReadBack = (flats : Bool) (k : ℕ) → k < 128 → pitch_key (pitch flats k) ≡ Some k

-- and nothing else is: a text is read as a key only where it is the pitch of this key, with sharps or with flats
abbrev pub OnlyPitchesAreRead : Type 0
OnlyPitchesAreRead = (text : List ℕ) (k : ℕ) → pitch_key text ≡ Some k → (k < 128) × ((text ≡ pitch false k) ⊎ (text ≡ pitch true k))

-- the text that is written of a value is read as this value
abbrev pub ValuesReadBack : Type 0
ValuesReadBack = (v : Value) → IsWellValue v → value_of (value_text v) ≡ Some v

-- and nothing else is: a text is read as a value only where it is the text of this value, which can be written
abbrev pub OnlyValueTextsAreRead : Type 0
OnlyValueTextsAreRead = (text : List ℕ) (v : Value) → value_of text ≡ Some v → IsWellValue v × (text ≡ value_text v)

-- ---- scores that are written

-- a text is read without a fault, and its events are the spans of the sounds of the voices, over these bars
pub record ReadsBack (resolution : ℕ) (bars : List Bar) (voices : List (List Sound)) (text : List ℕ) : Type 0 where
  pub score : KernColumns
  pub read : score_of text ≡ Ok score
  pub events : (events : List KernEvent) → AreEvents score events ↔ AreVoiceSpans resolution bars 1 voices events

-- the text of every score that can be written reads back
abbrev pub ScoresReadBack : Type 0
ScoresReadBack =
    (s : Score) (bars : List Bar) (text : List ℕ) → IsScore s → HaveSignatures s.bars bars → IsScoreText s text → ReadsBack s.resolution bars s.voices text

-- so does the text of every performance that has a score: to the spans of the least derivation of each voice
abbrev pub TextsReadBack : Type 0
TextsReadBack =
    (g : Grammar) (p : Performance) (text : List ℕ) → IsReadable g → IsWellFormed p → IsTextOf g p text
    → (s : Score) × IsScoreOf g p s × ReadsBack g.resolution p.bars s.voices text
