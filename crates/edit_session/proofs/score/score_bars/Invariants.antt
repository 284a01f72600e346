use Rattle.std.specs.Prelude.{◌≡◌, map, take}
use Rattle.derivation.specs.PerformanceScore.{score_bar}
use Rattle.edit_session.proofs.score.score_bars.Given as goal

abbrev pub invariant-bars : goal.invariant-bars
invariant-bars l = l.bars.items ≡ map (score_bar l.performance) (take l.bar-index l.bar-items)
