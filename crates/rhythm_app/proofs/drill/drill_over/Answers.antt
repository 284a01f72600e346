use Rattle.std.proofs.Common.{rules, ap, subst, Err}
use Rattle.drill_run.specs.Ends.{HasDrilled}
use Rattle.rhythm_app.proofs.Drilling.{drill_rises}
use Rattle.rhythm_app.proofs.drill.drill_over.Goals as goal

pub returns-clause-counts : goal.returns-clause-counts
returns-clause-counts g c =
    let s = c.args.session in
    let said = c.run_drill.ensures in
    let rises = drill_rises s.grammar c.args.number s.performance c.run_drill.result _ _ said.summary said.too_long said.memory in
    search (rules, rises)

pub returns-clause-too_long : goal.returns-clause-too_long
returns-clause-too_long g c = λ line is.
    let s = c.args.session in
    let said = c.run_drill.ensures.too_long line is in
    let built = ap (λ l. l.built) c.lent.view_is in
    subst (λ b. HasDrilled s.grammar c.args.number s.performance (Err line) b c.run_drill.new.builds) built said
