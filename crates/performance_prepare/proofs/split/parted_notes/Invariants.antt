use Rattle.std.proofs.Common.{◌≡◌, map, take}
use Rattle.performance_prepare.specs.Split.{parted_note}
use Rattle.performance_prepare.proofs.split.parted_notes.Given as goal

abbrev pub invariant-loop-note : goal.invariant-loop-note
invariant-loop-note l = l.parted.items ≡ map (parted_note l.key l.split l.free) (take l.note-index l.notes)
