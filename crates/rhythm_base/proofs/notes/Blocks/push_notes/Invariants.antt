use Rattle.std.proofs.Common.{◌≡◌, ◌++◌, length}
use Rattle.rhythm_base.proofs.notes.Blocks.push_notes.Given as goal

abbrev pub invariant-blocks-2 : goal.invariant-blocks-2
invariant-blocks-2 l = l.self ++ l.rest ≡ l.initial.self ++ l.fn.notes

abbrev pub decreases-blocks-2 : goal.decreases-blocks-2
decreases-blocks-2 l = length l.rest
