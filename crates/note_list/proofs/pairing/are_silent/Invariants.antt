use Rattle.std.proofs.Common.{◌≡◌, ℕ, ◌<◌, false, get_or}
use Rattle.rhythm_base.specs.declared.event.Event.{Event}
use Rattle.note_list.specs.Pairing.{begins}
use Rattle.note_list.proofs.pairing.are_silent.Given as goal

abbrev pub invariant-loop-event : goal.invariant-loop-event
invariant-loop-event l = (k : ℕ) (d : Event) → k < l.event-index → begins (get_or l.events k d).what ≡ false
