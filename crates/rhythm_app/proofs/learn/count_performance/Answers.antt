use Rattle.std.proofs.Common.{◌∙◌, subst}
use Rattle.edit_session.specs.Opening.{CanOpen}
use Rattle.rhythm_base.specs.Grammar.{Grammar}
use Rattle.rhythm_app.proofs.CountedFiles.{session_counted}
use Rattle.rhythm_app.proofs.learn.count_performance.Goals as goal

pub returns-in-Ok-count_rules : goal.returns-in-Ok-count_rules
returns-in-Ok-count_rules g c =
    let opened = c.in-Ok-open_session.ensures in
    let session = c.in-Ok-open_session.session in
    session_counted c.args.grammar.now session.grammar c.args.performance session.performance c.args.counts.now c.count_rules.new.counts c.args.lent.now c.open_session.new.lent c.in-Ok-count_rules.field-0
    (opened.grammar ∙ c.in-Ok.ensures) opened.performance (subst (λ (x : Grammar). CanOpen x c.args.performance) c.in-Ok.ensures opened.opened) c.in-Ok-count_rules.ensures.counted
    c.in-Ok-count_rules.ensures.of_each opened.all opened.counts
