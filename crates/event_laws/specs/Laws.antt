-- The laws, each as one statement over the definitions.
use Rattle.std.specs.Prelude.{◌≡◌, ◌↔◌, ℕ, List, length, map, Ok}
use Rattle.rhythm_base.specs.Grammar.{Grammar}
use Rattle.rhythm_base.specs.Performance.{IsWellFormed, Performance}
use Rattle.rhythm_base.specs.Readable.{IsReadable}
use Rattle.derivation.specs.PerformanceScore.{IsScoreOf, score_bar}
use Rattle.derivation.specs.Score.{IsScore, Score}
use Rattle.kern_writer.specs.PerformanceText.{IsTextOf}
use Rattle.kern_writer.specs.Text.{IsScoreText}
use Rattle.voice_events.specs.declared.event.KernEvent.{KernEvent}
use Rattle.kern_reader.specs.Events.{AreEvents}
use Rattle.kern_reader.specs.Outcome.{score_of}
use Rattle.kern_reader.specs.Score.{KernColumns}
use Rattle.voice_events.specs.Events.{AreScoreEvents}
use Rattle.voice_events.specs.VoiceEvents.{AreVoiceEvents}
use Rattle.voice_events.specs.Writable.{IsWritable}

-- what is read of the text of a score that can be written: exactly the events of the score
abbrev pub ScoreTextsHaveTheirEvents : Type 0
ScoreTextsHaveTheirEvents =
    (s : Score) (text : List ℕ) → IsScore s → IsScoreText s text
    → (k : KernColumns) × (score_of text ≡ Ok k) × ((events : List KernEvent) → AreEvents k events ↔ AreScoreEvents s events)

-- so it is of the text of the score of a performance
abbrev pub TextsHaveTheirEvents : Type 0
TextsHaveTheirEvents =
    (g : Grammar) (p : Performance) (s : Score) (text : List ℕ) → IsReadable g → IsWellFormed p → IsScoreOf g p s → IsTextOf g p text
    → (k : KernColumns) × (score_of text ≡ Ok k) × ((events : List KernEvent) → AreEvents k events ↔ AreScoreEvents s events)

-- what is read of the score of a performance: it has events, and over these bars and voices they can be handed to a writer
pub record TextsHaveVoiceEvents : Type 0 where
  pub some : (g : Grammar) (p : Performance) (text : List ℕ) → IsReadable g → IsWellFormed p → IsTextOf g p text
      → (k : KernColumns) × (score_of text ≡ Ok k) × (events : List KernEvent) × AreEvents k events
  pub events : (g : Grammar) (p : Performance) (text : List ℕ) (k : KernColumns) (events : List KernEvent)
      → IsReadable g → IsWellFormed p → IsTextOf g p text → score_of text ≡ Ok k → AreEvents k events
      → AreVoiceEvents g.resolution (map (score_bar p) p.bars) (length p.channels) events
  pub writable : (g : Grammar) (p : Performance) (text : List ℕ) → IsReadable g → IsWellFormed p → IsTextOf g p text
      → IsWritable g.resolution (map (score_bar p) p.bars) (length p.channels)
