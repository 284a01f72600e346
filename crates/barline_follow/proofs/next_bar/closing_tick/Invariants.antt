use Rattle.std.proofs.Common.{◌≡◌, ℕ, take}
use Rattle.std.specs.Prelude.{nat_le, not}
use Rattle.std.specs.List.{list_any}
use Rattle.edit_laws.specs.Edits.{is_past}
use Rattle.rhythm_base.specs.NoteBlocks.{notes_of}
use Rattle.barline_follow.proofs.next_bar.closing_tick.Given as goal

abbrev pub invariant-blocks-2 : goal.invariant-blocks-2
invariant-blocks-2 l = (end : ℕ) → not (list_any (is_past end) (notes_of (take l.block-index l.block-items))) ≡ nat_le l.tick end
