use Rattle.std.proofs.Common.{take}
use Rattle.notation.specs.Notes.{AreNotes}
use Rattle.notation.proofs.notes.notes_of.Given as goal

abbrev pub invariant-tokens : goal.invariant-tokens
invariant-tokens l = AreNotes l.by.grid l.by.whole (take l.token-index l.tokens) l.list.items
