use Rattle.std.proofs.Common.{[], arith, inl, inr, refl}
use Rattle.std.proofs.KnownBytes.{Appends-nil}
use Rattle.script_run.specs.Answers.{Quits}
use Rattle.script_run.proofs.Hearings.{decided}
use Rattle.script_run.proofs.script.close.Goals as goal
use Rattle.rhythm_base.proofs.Booleans.{not_both_tests}

pub returns-then-has_no_line-clause-ok : goal.returns-then-has_no_line-clause-ok
returns-then-has_no_line-clause-ok g c =
    ([], 0, inl (c.has_no_line.ensures.0 c.if-has_no_line.true, refl, refl, refl), (Appends-nil (g.O.Sink.taken c.args.out.now), omega arith))

pub returns-in-Ok-clause-ok : goal.returns-in-Ok-clause-ok
returns-in-Ok-clause-ok g c =
    let ok = c.in-Ok.ensures.ok in
    let said = ok.1 in
    (said.0, said.1, inr ((λ e. not_both_tests c.has_no_line.result (c.has_no_line.ensures.1 e) c.if-has_no_line.false), said.2, decided c.in-Ok._ends (Quits c.args.listener.now.begun) ok.0), (said.3, said.4))
