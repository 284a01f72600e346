use Rattle.std.proofs.Common.{refl, subst, sym, Some}
use Rattle.rhythm_app.specs.Asked.{write}
use Rattle.rhythm_app.specs.Inputs.{shown_inputs}
use Rattle.rhythm_app.specs.Lent.{Lent}
use Rattle.rhythm_app.specs.Outcome.{IsWriting}
use Rattle.rhythm_app.specs.Stages.{HasText}
use Rattle.rhythm_app.proofs.Answered.{same_counts}
use Rattle.rhythm_app.proofs.Opened.{session_all, session_built, some_in, text_had, unopened_text}
use Rattle.rhythm_app.proofs.Sessions.{of_content}
use Rattle.rhythm_app.proofs.Unopened.{unopened_inputs}
use Rattle.rhythm_app.proofs.writing.session_text.Goals as goal

pub returns-in-Ok : goal.returns-in-Ok
returns-in-Ok g c =
    let i = shown_inputs c.args.inputs in
    let had = c.in-Ok.ensures in
    let said = c.text_over.ensures in
    let old = c.args.lent.now in
    let mid = c.opened_session.new.lent in
    let r = c.text_over.result in
    subst (λ (l : Lent g.row.W-Script.Denot g.row.W-Out.Denot g.row.W-Err.Denot). HasText (Some (write c.args.form i)) old l r) (sym said.same)
    (text_had (write c.args.form i) i (IsWriting c.args.form) refl (λ files r h. h) (some_in i) old mid mid c.in-Ok.session had (same_counts mid) r said.tests (of_content r said.end)
    (session_all i old mid c.in-Ok.session had r) (session_built i old mid c.in-Ok.session had r said.end))

pub returns-in-Err : goal.returns-in-Err
returns-in-Err g c =
    let i = shown_inputs c.args.inputs in
    let old = c.args.lent.now in
    let mid = c.opened_session.new.lent in
    unopened_text (write c.args.form i) i (IsWriting c.args.form) refl (λ files r h. h) (some_in i) old mid c.in-Err.stop c.in-Err.ensures
    (unopened_inputs i old.files old.built mid.built c.in-Err.stop c.in-Err.ensures.built)
