use Rattle.std.proofs.Common.{◌≡◌, ◌++◌, take}
use Rattle.rhythm_base.specs.NoteBlocks.{notes_of}
use Rattle.rhythm_base.proofs.notes.first_notes.Given as goal

abbrev pub invariant-blocks-2 : goal.invariant-blocks-2
invariant-blocks-2 l = l.notes.items ≡ take l.most (l.first ++ notes_of (take l.block-index l.later))
