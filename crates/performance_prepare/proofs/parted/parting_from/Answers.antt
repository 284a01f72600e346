use Rattle.std.proofs.Common.{arith}
use Rattle.std.specs.Prelude.{nat_lt, not}
use Rattle.rhythm_base.proofs.ListParts.{filter_few}
use Rattle.performance_prepare.proofs.NextKeys.{next_from, parted_still}
use Rattle.performance_prepare.proofs.parted.parting_from.Goals as goal

pub returns-clause-low : goal.returns-clause-low
returns-clause-low c =
    let left = filter_few (λ k. nat_lt k c.args.border) c.args.held.now in
    let right = filter_few (λ k. not (nat_lt k c.args.border)) c.args.held.now in
    omega (arith, left, right, c.two_hands-held.ensures.left.all, c.two_hands-held.ensures.right.all, c.requires.held, c.parted.ensures.low)

pub returns-clause-parting : goal.returns-clause-parting
returns-clause-parting c =
    let near = c.next_key.ensures c.args.struck.now c.args.border c.two_hands-struck.ensures in
    let far = c.next_key-2.ensures c.args.held.now c.args.border c.two_hands-held.ensures in
    let cost = c.parted.ensures.cost c.args.struck.now c.args.held.now c.args.border c.two_hands-struck.ensures c.two_hands-held.ensures in
    let least = c.min.ensures in
    parted_still c.args.struck.now c.args.held.now c.args.border c.min.result c.parted.result
    (omega (arith, near, far, least)) (omega (arith, near, far, least)) cost

pub returns-clause-from : goal.returns-clause-from
returns-clause-from c = λ within.
    let near = c.next_key.ensures c.args.struck.now c.args.border c.two_hands-struck.ensures in
    let far = c.next_key-2.ensures c.args.held.now c.args.border c.two_hands-held.ensures in
    let least = c.min.ensures in
    let one = next_from c.args.border c.args.struck.now (omega (arith, within)) in
    let other = next_from c.args.border c.args.held.now (omega (arith, within)) in
    omega (arith, near, far, least, one, other)
