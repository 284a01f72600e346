use Rattle.rhythm_app.proofs.ScriptedSessions.{all_scripted, not_opened, not_scripted}
use Rattle.rhythm_app.proofs.script_file.scripted_session.Goals as goal

pub returns-in-Ok-make_edits : goal.returns-in-Ok-make_edits
returns-in-Ok-make_edits g c =
    let opened = c.in-Ok.ensures in
    let said = c.make_edits.ensures in
    all_scripted c.args.grammar c.args.performance c.args.script.now c.args.lent.now c.open_session.new.lent c.make_edits.new.lent c.open_session.ensures.counts c.in-Ok.session c.make_edits.new.session
    opened.grammar opened.performance opened.opened opened.all said.grammar said.counts {T = Unit {0}} tt c.in-Ok-make_edits.ensures.edited

pub returns-in-Err-make_edits : goal.returns-in-Err-make_edits
returns-in-Err-make_edits g c =
    let opened = c.in-Ok.ensures in
    let said = c.make_edits.ensures in
    not_scripted c.args.grammar c.args.performance c.args.script.now c.args.lent.now c.open_session.new.lent c.make_edits.new.lent c.open_session.ensures.counts c.in-Ok.session c.make_edits.new.session
    opened.grammar opened.performance opened.opened opened.all said.grammar said.counts (Unit {0}) c.in-Err-make_edits.stop c.in-Err-make_edits.ensures.edited

pub returns-in-Err : goal.returns-in-Err
returns-in-Err g c =
    let said = c.in-Err.ensures in
    not_opened c.args.grammar c.args.performance c.args.script.now c.args.lent.now c.open_session.new.lent c.open_session.ensures.counts c.in-Err.stop said.unopened said.content said.built
