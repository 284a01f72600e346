use Rattle.std.specs.Prelude.{All}
use Rattle.note_list.specs.Pairing.{IsEventOf}
use Rattle.file_tests.proofs.pairing.playable.Given as goal

abbrev pub invariant-changes : goal.invariant-changes
invariant-changes l = All (IsEventOf l.last) l.events.items
