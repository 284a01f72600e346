use Rattle.std.proofs.Common.{subst, sym}
use Rattle.rhythm_base.specs.Leaves.{soundings}
use Rattle.rhythm_base.specs.Line.{Rising}
use Rattle.derivation.proofs.ReadChords.{along_step, rise_kept}
use Rattle.derivation.proofs.reading.sounds_along.Goals as goal

pub leaves-preserved : goal.leaves-preserved
leaves-preserved c = record {
  made = along_step _ _ _ _ _ _ _ _ _ _ _ _ c.leaves-test.true c.split_after.ensures.until c.split_after.ensures.after c.keys_after-latest.ensures c.in_ok-sound_with.ensures c.in_ok-push.ensures c.leaves.invariant.made;
  rise = subst (λ l. Rising 0 (soundings l)) (sym c.split_after.ensures.after) (rise_kept _ 0 c.leaves.later.now c.leaves.invariant.rise);
}
