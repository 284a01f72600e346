use Rattle.std.proofs.Common.{◌≡◌, ◌++◌, length}
use Rattle.notation.specs.Rests.{joined_rests}
use Rattle.notation.specs.Runs.{AreRun}
use Rattle.notation.proofs.rests.join_rests.Given as goal

abbrev pub invariant-tokens : goal.invariant-tokens
invariant-tokens l = record {
  run : AreRun l.resolution l.later;
  joined : l.joined.items ++ joined_rests l.resolution l.bar l.later ≡ joined_rests l.resolution l.bar l.tokens;
}

abbrev pub decreases-tokens : goal.decreases-tokens
decreases-tokens l = length l.later
