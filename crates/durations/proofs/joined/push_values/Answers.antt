use Rattle.std.proofs.Common.{◌+◌, ◌≤◌, take, sym, subst, arith}
use Rattle.std.specs.Prelude.{sum_by}
use Rattle.std.proofs.lemmas.List.Sums.{sum-map, sum_by_more_le}
use Rattle.durations.specs.Value.{width}
use Rattle.durations.proofs.joined.push_values.Goals as goal

pub overflow_add-from : goal.overflow_add-from
overflow_add-from c =
    let f = width c.args.whole in
    let xs = c.args.values.now in
    let i = c.values.value-index in
    let more : sum_by f (take i xs) + c.width-from.result ≤ sum_by f xs = subst (λ x. sum_by f (take i xs) + x ≤ sum_by f xs) (sym c.width-from.ensures) (sum_by_more_le f xs i _ c.values-test.true) in
    omega (arith, c.values.invariant.from, sum-map f (take i xs), sum-map f xs, more, c.requires.end)
