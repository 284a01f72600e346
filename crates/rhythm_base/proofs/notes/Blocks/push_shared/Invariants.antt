use Rattle.std.proofs.Common.{◌≡◌, ◌++◌, take}
use Rattle.rhythm_base.specs.NoteBlocks.{notes_of}
use Rattle.rhythm_base.proofs.notes.Blocks.push_shared.Given as goal

abbrev pub invariant-blocks-2 : goal.invariant-blocks-2
invariant-blocks-2 l = l.self ≡ l.initial.self ++ notes_of (take l.block-index l.blocks)
