use Rattle.std.proofs.Common.{◌≡◌, map, take}
use Rattle.barline_follow.proofs.barlines.barlines.Given as goal

abbrev pub invariant-bars : goal.invariant-bars
invariant-bars l = l.ticks.items ≡ map (λ b. b.start) (take l.bar-index l.bars)
