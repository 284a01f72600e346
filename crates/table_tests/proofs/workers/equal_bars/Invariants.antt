use Rattle.std.proofs.Common.{◌≡◌, All}
use Rattle.table_tests.proofs.workers.equal_bars.Given as goal

abbrev pub invariant-bars : goal.invariant-bars
invariant-bars l = All (λ b. b.resolution ≡ l.grammar.resolution) l.bars.items
