-- The spans of voices as events.
use Rattle.std.specs.Prelude.{ℕ, List, [], ◌∷◌, ◌++◌, map}
use Rattle.std.proofs.Common.{suc}
use Rattle.rhythm_base.specs.declared.span.Span.{Span}
use Rattle.voice_events.specs.declared.event.KernEvent.{KernEvent}
use Rattle.voice_events.specs.Events.{span_event}

-- voice after voice, of the spines from this number on
abbrev pub voices_events : ℕ → List (List Span) → List KernEvent
voices_events spine [] = []
voices_events spine (spans ∷ others) = map (span_event spine) spans ++ voices_events (suc spine) others
