use Rattle.std.proofs.Common.{◌≡◌, take}
use Rattle.std.specs.List.{reduce}
use Rattle.std.specs.Prelude.{min}
use Rattle.edit_laws.specs.Edits.{onsets_past}
use Rattle.rhythm_base.specs.NoteBlocks.{notes_of}
use Rattle.performance_edit.proofs.notes.least_past.Given as goal

abbrev pub invariant-blocks-2 : goal.invariant-blocks-2
invariant-blocks-2 l = l.least ≡ reduce min (onsets_past l.tick (notes_of (take l.block-index l.block-items)))
