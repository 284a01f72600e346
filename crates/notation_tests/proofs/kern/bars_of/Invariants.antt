use Rattle.std.specs.Prelude.{All}
use Rattle.derivation.specs.Score.{IsScoreBar}
use Rattle.notation_tests.proofs.kern.bars_of.Given as goal

abbrev pub invariant-heads : goal.invariant-heads
invariant-heads l = All IsScoreBar l.bars.items
