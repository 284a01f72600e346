use Rattle.std.proofs.Common.{◌≡◌}
use Rattle.bar_pool.specs.Sources.{counted_from}
use Rattle.bar_pool.proofs.pool.numbers_below.Given as goal

abbrev pub invariant-numbers : goal.invariant-numbers
invariant-numbers l = l.numbers.items ≡ counted_from 0 l.number
