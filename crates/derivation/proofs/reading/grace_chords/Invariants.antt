use Rattle.std.proofs.Common.{◌≡◌, map, take}
use Rattle.derivation.proofs.reading.grace_chords.Given as goal

abbrev pub invariant-loop-chord : goal.invariant-loop-chord
invariant-loop-chord l = l.graces.items ≡ map (λ c. c.keys) (take l.chord-index l.before)
