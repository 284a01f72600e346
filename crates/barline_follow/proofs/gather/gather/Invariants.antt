use Rattle.std.proofs.Common.{◌≡◌, List, ◌*◌, ◌++◌, length, map}
use Rattle.rhythm_base.specs.Counter.{risen}
use Rattle.barline_follow.specs.Gathering.{GathersAll}
use Rattle.barline_follow.specs.Longer.{Longer, draft_of}
use Rattle.barline_follow.proofs.gather.gather.Given as goal

abbrev pub invariant-batches : goal.invariant-batches
invariant-batches g l =
    (done : List Longer) × (l.fn.lists.items ≡ done ++ l.batch.items) × GathersAll l.next (map draft_of done) l.fn.best l.round
    × (l.builds ≡ risen l.initial.builds (length l.next.voices.now * length done))

abbrev pub decreases-batches : goal.decreases-batches
decreases-batches g l = length l.batch.items
