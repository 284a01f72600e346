use Rattle.std.proofs.Common.{◌<◌, ◌≤◌, ◌-◌, length}
use Rattle.note_list.proofs.pairing.end_of_chord.Given as goal

abbrev pub invariant-notes : goal.invariant-notes
invariant-notes l = (l.start < l.end) × (l.end ≤ length l.notes)

abbrev pub decreases-notes : goal.decreases-notes
decreases-notes l = length l.notes - l.end
