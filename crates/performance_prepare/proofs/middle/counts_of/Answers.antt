use Rattle.std.proofs.Common.{arith, refl}
use Rattle.std.specs.Prelude.{slice_index}
use Rattle.performance_prepare.proofs.SidesCounted.{counted_few, none_counted}
use Rattle.performance_prepare.proofs.middle.counts_of.Goals as goal

pub loop-key-init : goal.loop-key-init
loop-key-init c = record { each = none_counted c.args.keys.now; long = refl }

pub overflow_add-counts : goal.overflow_add-counts
overflow_add-counts c =
    let low = c.requires.keys c.loop-key.key-index 0 c.loop-key-test.true in
    let at = c.loop-key.invariant.each (slice_index c.args.keys.now c.loop-key.key-index) low in
    let few = counted_few (slice_index c.args.keys.now c.loop-key.key-index) c.loop-key.key-index c.args.keys.now in
    let short = c.requires.few in
    omega (arith, at, few, short)
