use Rattle.note_list.proofs.Keeping.{Going}
use Rattle.note_list.proofs.kept.kept.Given as goal

abbrev pub invariant-events : goal.invariant-events
invariant-events l = Going l.last l.events l.place l.ends l.onsets l.notes.items l.count
