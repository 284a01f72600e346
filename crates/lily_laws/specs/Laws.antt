-- The law, as one statement over the definitions.
use Rattle.std.specs.Prelude.{◌≡◌, ℕ, List, Some}
use Rattle.derivation.specs.declared.score.ScoreBar.{ScoreBar}
use Rattle.voice_events.specs.declared.event.KernEvent.{KernEvent}
use Rattle.voice_events.specs.VoiceEvents.{AreVoiceEvents}
use Rattle.voice_events.specs.Writable.{IsWritable}
use Rattle.lily_writer.specs.Reading.{lily_events}
use Rattle.lily_writer.specs.Text.{IsLilyText}

-- the text of the events of so many voices over these bars is read as these events; so it is the text of no others
abbrev pub TextsAreReadAsTheirEvents : Type 0
TextsAreReadAsTheirEvents =
    (resolution : ℕ) (bars : List ScoreBar) (voices : ℕ) (events : List KernEvent) (text : List ℕ)
    → IsWritable resolution bars voices → AreVoiceEvents resolution bars voices events → IsLilyText resolution bars voices events text
    → lily_events text ≡ Some events
