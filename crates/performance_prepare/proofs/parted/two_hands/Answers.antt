use Rattle.std.proofs.Common.{arith, take}
use Rattle.std.specs.Prelude.{nat_lt, not}
use Rattle.std.proofs.lemmas.List.{length-take}
use Rattle.rhythm_base.proofs.ListParts.{filter_few}
use Rattle.performance_prepare.proofs.parted.two_hands.Goals as goal

pub with_one-hands-requires : goal.with_one-hands-requires
with_one-hands-requires c =
    let left = filter_few (λ k. nat_lt k c.args.border) (take c.loop-key.key-index c.args.keys.now) in
    let right = filter_few (λ k. not (nat_lt k c.args.border)) (take c.loop-key.key-index c.args.keys.now) in
    let long = length-take c.loop-key.key-index c.args.keys.now in
    omega (arith, left, right, long, c.loop-key.invariant.left.all, c.loop-key.invariant.right.all, c.requires)
