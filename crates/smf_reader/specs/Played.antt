-- What a file says, as contracts see it.
use Rattle.std.specs.Prelude.{ℕ, List}
use Rattle.rhythm_base.specs.declared.event.Event.{Event}

-- the events of a track that are not skipped, in their order, and the tick of its last event, a skipped one too
pub record Track : Type 0 where
  pub events : List Event
  pub last : ℕ

-- the ticks of a quarter note, and the tracks in the order of the file
pub record Smf : Type 0 where
  pub division : ℕ
  pub tracks : List Track
