use Rattle.std.proofs.Common.{◌≡◌, [], subst, arith}
use Rattle.std.proofs.lemmas.List.{append-nil}
use Rattle.durations.specs.Values.{AreValues}
use Rattle.durations.proofs.notation.push_length.Goals as goal

pub returns : goal.returns
returns c =
    let none : c.values.left ≡ 0 = omega (arith, c.values-test.false) in
    let own = c.values.invariant.0 in
    (own, subst (AreValues c.args.len c.args.whole) (append-nil own) (c.values.invariant.2 [] none), c.values.invariant.1)
