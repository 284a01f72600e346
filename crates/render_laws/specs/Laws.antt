-- The law, as one statement over the definitions.
use Rattle.std.specs.Prelude.{ℕ, List, length}
use Rattle.derivation.specs.declared.score.ScoreBar.{ScoreBar}
use Rattle.voice_events.specs.declared.event.KernEvent.{KernEvent}
use Rattle.smf_writer.specs.RenderedFile.{AreChannels, IsRendered}
use Rattle.voice_events.specs.VoiceEvents.{AreVoiceEvents}
use Rattle.voice_events.specs.Writable.{IsWritable}
use Rattle.render_laws.specs.ReadBack.{RendersBack}

-- the file of all events that can be written reads back
abbrev pub RenderedFilesReadBack : Type 0
RenderedFilesReadBack =
    (resolution : ℕ) (bars : List ScoreBar) (channels : List ℕ) (events : List KernEvent) (bytes : List ℕ)
    → IsWritable resolution bars (length channels) → AreChannels channels → AreVoiceEvents resolution bars (length channels) events
    → IsRendered resolution bars channels events bytes → RendersBack resolution bars channels events bytes
