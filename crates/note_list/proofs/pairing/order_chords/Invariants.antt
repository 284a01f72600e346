use Rattle.std.proofs.Common.{◌≤◌, ◌-◌, length}
use Rattle.std.specs.List.Sorted.{IsPermutation}
use Rattle.note_list.proofs.pairing.order_chords.Given as goal

abbrev pub invariant-chords : goal.invariant-chords
invariant-chords l = (l.start ≤ length l.notes) × IsPermutation l.initial.notes l.notes

abbrev pub decreases-chords : goal.decreases-chords
decreases-chords l = length l.notes - l.start
