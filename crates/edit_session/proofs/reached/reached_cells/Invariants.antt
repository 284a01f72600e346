use Rattle.std.specs.Prelude.{map}
use Rattle.edit_session.specs.ReachedCells.{place_pair}
use Rattle.edit_session.proofs.ReachedVoices.{AreReachedUntil}
use Rattle.edit_session.proofs.reached.reached_cells.Given as goal

abbrev pub invariant-voices : goal.invariant-voices
invariant-voices l = AreReachedUntil l.grammar l.before l.after l.number (map place_pair l.cells.items) l.inputs.items
