-- The notes of the events of a file are notes of that file.
use Rattle.std.proofs.Common.{ℕ, List, map}
use Rattle.std.specs.Prelude.{All}
use Rattle.std.specs.List.Sorted.{IsNonDecreasing}
use Rattle.rhythm_base.proofs.Members.{all_among, all_from_among, among_contained, place_among}
use Rattle.note_list.proofs.Ending.{are_played}
use Rattle.note_list.proofs.OneList.{events_rise}
use Rattle.note_list.specs.Pairing.{IsEventOf, IsPlayed}
use Rattle.rhythm_base.specs.Notes.{AreNotes, begun}
use Rattle.rhythm_base.specs.declared.event.Event.{Event}
use Rattle.rhythm_base.specs.declared.note.Note.{Note}

pub notes_are_played : (last : ℕ) (events : List Event) (notes : List Note) → IsNonDecreasing (map (λ e. e.tick) events) → All (IsEventOf last) events
    → AreNotes last events notes → All (IsPlayed last) notes
notes_are_played last events notes order all are =
    all_from_among (IsPlayed last) notes (λ n there.
    are_played last events (events_rise events order) (all_among (IsEventOf last) events all) n
    (among_contained (begun last events) n ((are.kept n).0 (place_among notes n there)).0))
