use Rattle.std.proofs.Common.{◌≡◌, ℕ, take}
use Rattle.std.specs.Prelude.{nat_le, not}
use Rattle.std.specs.List.{list_any}
use Rattle.edit_laws.specs.Edits.{is_past}
use Rattle.barline_follow.proofs.next_bar.closing_within.Given as goal

abbrev pub invariant-notes : goal.invariant-notes
invariant-notes l = (end : ℕ) → not (list_any (is_past end) (take l.note-index l.notes)) ≡ nat_le l.tick end
