use Rattle.rhythm_app.proofs.Scripting.{line_refused}
use Rattle.rhythm_app.proofs.script_file.make_line.Goals as goal

pub returns-in-Ok-clause-refused : goal.returns-in-Ok-clause-refused
returns-in-Ok-clause-refused g c =
    let session = c.args.session.now in
    line_refused session.grammar session.performance c.args.line.now c.args.lent.now.built c.make_edit.new.lent.built c.in-Ok.edit c.in-Err-make_edit.fault c.in-Ok.ensures.edit
    c.in-Err-make_edit.ensures.rejected.refused c.in-Err-make_edit.ensures.built
