use Rattle.std.proofs.Common.{◌≡◌, ◌++◌, length}
use Rattle.notation.specs.Notes.{ties_taken}
use Rattle.notation.specs.Rests.{joined_from}
use Rattle.notation.specs.Spelling.{AreInGrid}
use Rattle.notation.proofs.ties.join_ties.Given as goal

abbrev pub invariant-tokens : goal.invariant-tokens
invariant-tokens l = record {
  places : AreInGrid l.by.grid l.later;
  joined : l.joined.items ++ joined_from (ties_taken l.by.grid l.by.whole) 0 l.later ≡ joined_from (ties_taken l.by.grid l.by.whole) 0 l.tokens;
}

abbrev pub decreases-tokens : goal.decreases-tokens
decreases-tokens l = length l.later
