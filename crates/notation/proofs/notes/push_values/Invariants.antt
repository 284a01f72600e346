use Rattle.std.proofs.Common.{◌≡◌, ◌++◌, length}
use Rattle.std.specs.Prelude.{All, true}
use Rattle.notation.specs.Notes.{token_notes}
use Rattle.notation.specs.Spelling.{IsNoteValue}
use Rattle.notation.proofs.notes.push_values.Given as goal

abbrev pub invariant-values : goal.invariant-values
invariant-values l = record {
  each : All IsNoteValue l.later;
  notes : l.list.items ++ token_notes l.by.grid l.by.whole l.token l.first l.later ≡ l.initial.list.items ++ token_notes l.by.grid l.by.whole l.token true l.values;
}

abbrev pub decreases-values : goal.decreases-values
decreases-values l = length l.later
