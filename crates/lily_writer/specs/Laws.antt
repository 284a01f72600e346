-- The laws, each as one statement over the definitions.
use Rattle.std.specs.Prelude.{◌≡◌, ℕ, ◌≤◌, List}
use Rattle.derivation.specs.declared.score.ScoreBar.{ScoreBar}
use Rattle.voice_events.specs.declared.event.KernEvent.{KernEvent}
use Rattle.lily_writer.specs.Text.{IsLilyText}

-- events have one text
abbrev pub PagesAreOne : Type 0
PagesAreOne =
    (resolution : ℕ) (bars : List ScoreBar) (voices : ℕ) (events : List KernEvent) (a b : List ℕ)
    → 1 ≤ resolution → IsLilyText resolution bars voices events a → IsLilyText resolution bars voices events b → a ≡ b
