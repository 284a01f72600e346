use Rattle.std.proofs.Common.{arith}
use Rattle.std.proofs.lemmas.Result.{err_from_is_err_and}
use Rattle.rhythm_app.proofs.Taken.{parts_more, parts_cut, writes_cut}
use Rattle.rhythm_app.proofs.line.write_parts.Goals as goal

pub returns-in_err-write_part : goal.returns-in_err-write_part
returns-in_err-write_part g c =
    let p = err_from_is_err_and c.from_residual.result c.from_residual.ensures.1 in
    let said = c.in_err-write_part.ensures in
    writes_cut g.K.Sink.taken g.K.Sink.faults _ _ _ _ c.from_residual.result p.0 p.1 (parts_cut _ _ _ _ _ _ c.parts-test.true c.parts.invariant.0 said.part) c.parts.invariant.1 said.cause.failed said.cause.later

pub parts-preserved : goal.parts-preserved
parts-preserved g c =
    (parts_more _ _ _ _ _ _ c.parts-test.true c.parts.invariant.0 c.in_ok-write_part.ensures.all, omega (arith, c.parts.invariant.1, c.write_part.ensures.cause.later))
