use Rattle.std.proofs.Common.{◌*◌, ◌≤◌, arith}
use Rattle.std.specs.Prelude.{All}
use Rattle.std.proofs.lemmas.Result.{IfOk-weaker}
use Rattle.durations.specs.Laws.{CountsIn}
use Rattle.durations.specs.Value.{plain_grid}
use Rattle.lily_writer.proofs.SomeValues.{counted_some}
use Rattle.lily_writer.proofs.piece.values_in.Goals as goal

pub returns-clause-some : goal.returns-clause-some
returns-clause-some c =
    let whole = 64 * c.from.result in
    IfOk-weaker c.notate.result (λ v. All (CountsIn whole) v.items) (λ v. All (λ w. 1 ≤ plain_grid w.recip) v.items)
    (λ v h. counted_some whole v.items (omega (arith, c.count.ensures.some, c.from.ensures)) h) c.notate.ensures.grid
