use Rattle.std.proofs.Common.{◌≡◌, ◌++◌, drop}
use Rattle.rhythm_base.specs.Leaves.{soundings}
use Rattle.rhythm_base.specs.Line.{Rising}
use Rattle.derivation.specs.TimedLeaves.{sounds_along}
use Rattle.derivation.proofs.reading.sounds_along.Given as goal

abbrev pub invariant-leaves : goal.invariant-leaves
invariant-leaves l = record {
  made : l.sounds ++ sounds_along l.latest l.later (drop l.leaf-index l.leaves) ≡ sounds_along 0 l.chords l.leaves;
  rise : Rising 0 (soundings l.later);
}
