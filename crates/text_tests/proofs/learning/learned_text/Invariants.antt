use Rattle.std.proofs.Common.{◌≡◌, length}
use Rattle.text_tests.proofs.learning.learned_text.Given as goal

abbrev pub invariant-loop-list : goal.invariant-loop-list
invariant-loop-list l = length l.counts ≡ length l.initial.counts
