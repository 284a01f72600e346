-- The laws, each as one statement over the definitions.
use Rattle.std.specs.Prelude.{◌≡◌, ℕ, List}
use Rattle.derivation.specs.declared.score.ScoreBar.{ScoreBar}
use Rattle.voice_events.specs.declared.event.KernEvent.{KernEvent}
use Rattle.smf_writer.specs.RenderedFile.{IsRendered}

-- the events of a score have one file
abbrev pub RenderedFilesAreOne : Type 0
RenderedFilesAreOne =
    (resolution : ℕ) (bars : List ScoreBar) (channels : List ℕ) (events : List KernEvent) (a b : List ℕ)
    → IsRendered resolution bars channels events a → IsRendered resolution bars channels events b → a ≡ b
