use Rattle.std.proofs.Common.{◌≤◌, length, ap, arith}
use Rattle.bar_view.proofs.Few.{few-chords}
use Rattle.bar_view.proofs.view.View.set.Goals as goal

pub overflow_add-count : goal.overflow_add-count
overflow_add-count c =
    let few : length c.args.input.now.chords ≤ 2000000000 = few-chords c.args.input.now c.requires.ready.cell in
    let long = ap length c.onsets-chord-items.ensures in
    omega (arith, few, long, c.chords-test.true, c.chords.invariant.count)
