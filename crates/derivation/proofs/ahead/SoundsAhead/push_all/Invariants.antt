use Rattle.std.proofs.Common.{◌≡◌, ◌++◌, length}
use Rattle.derivation.proofs.ahead.SoundsAhead.push_all.Given as goal

abbrev pub invariant-bars : goal.invariant-bars
invariant-bars l = l.sounds.items ++ l.self ≡ l.initial.sounds.items ++ l.initial.self

abbrev pub decreases-bars : goal.decreases-bars
decreases-bars l = length l.self
