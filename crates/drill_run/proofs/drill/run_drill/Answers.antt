use Rattle.std.proofs.Common.{Err, subst}
use Rattle.rhythm_base.specs.Grammar.{Grammar}
use Rattle.drill_run.specs.Drill.{Drilled}
use Rattle.drill_run.specs.Ends.{IsSummarySaid}
use Rattle.drill_run.proofs.Drills.{broke_off_at_end}
use Rattle.drill_run.proofs.Tries.{standing}
use Rattle.drill_run.proofs.drill.run_drill.Goals as goal

pub returns-in-Ok-clause-too_long : goal.returns-in-Ok-clause-too_long
returns-in-Ok-clause-too_long g c = λ line is.
    let come = c.in-Ok.ensures.drilled in
    let after = c.make_edits.new.self in
    let last : Drilled = standing after.session.performance after.accepted after.built in
    let said = subst (λ (x : Grammar). IsSummarySaid x last (Err line)) c.in-Ok.ensures.grammar (c.summary_of.ensures.too_long line is) in
    (last, come.0, come.1, said, come.2)

pub returns-in-Ok-clause-memory : goal.returns-in-Ok-clause-memory
returns-in-Ok-clause-memory g c = λ is.
    let after = c.make_edits.new.self in
    broke_off_at_end c.args.session.grammar c.args.number c.args.session.performance after.session.performance after.accepted after.built c.args.builds.now c.make_edits.new.builds c.in-Ok.ensures.drilled
