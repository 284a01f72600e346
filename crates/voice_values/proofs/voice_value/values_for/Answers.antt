use Rattle.std.proofs.Common.{arith, refl}
use Rattle.std.proofs.lemmas.List.{append_assoc}
use Rattle.std.proofs.lemmas.Option.{slice_get_read}
use Rattle.voice_values.proofs.BarValues.{values_more}
use Rattle.voice_values.proofs.voice_value.values_for.Goals as goal

pub written-preserved : goal.written-preserved
written-preserved c =
    let xs = c.args.sounds.now in
    let read = slice_get_read xs _ _ _ refl (c.requires _ _ c.written-test.true) c.index-sounds-value.is in
    let next = values_more xs c.written.before c.args.written.now c.written.value-index _ _ c.written-test.true read in
    grind (arith, append_assoc)
