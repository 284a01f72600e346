use Rattle.std.proofs.Common.{arith, subst}
use Rattle.edit_script.specs.ScriptLines.{SaysCommand}
use Rattle.edit_script.specs.declared.command.Command.TheVariants.{Quit}
use Rattle.session_history.specs.StudioLines.{SaysStudio}
use Rattle.session_history.specs.declared.studio_command.StudioCommand.TheVariants.{Plain}
use Rattle.script_run.proofs.Studios.{alternatives_in_studio, change_in_studio, memory_in_studio, nothing_in_studio, quit_in_studio, redo_line, score_in_studio, studio_line_is_no_bye, undo_line}
use Rattle.script_run.proofs.studio.studio_reply_to.Goals as goal

pub returns-in-Ok-Undo-clause-answer : goal.returns-in-Ok-Undo-clause-answer
returns-in-Ok-Undo-clause-answer g c =
    let says = subst (SaysStudio c.args.line.now) c.in-Ok-Undo.field-0-is c.in-Ok-Undo.ensures.command in
    let step = c.undo.ensures in
    (0, undo_line c.args.history.now c.args.line.now c.undo.result c.step_reply.result c.undo.new.self says c.step_reply.ensures step.undone step.told step.none step.unchanged, omega arith)

pub returns-in-Ok-Redo-clause-answer : goal.returns-in-Ok-Redo-clause-answer
returns-in-Ok-Redo-clause-answer g c =
    let says = subst (SaysStudio c.args.line.now) c.in-Ok-Redo.field-0-is c.in-Ok-Redo.ensures.command in
    let step = c.redo.ensures in
    let reply = c.step_reply-in-Ok-Redo in
    (0, redo_line c.args.history.now c.args.line.now c.redo.result reply.result c.redo.new.self says reply.ensures step.redone step.told step.none step.unchanged, omega arith)

pub returns-in-Ok-Plain-Change-clause-answer : goal.returns-in-Ok-Plain-Change-clause-answer
returns-in-Ok-Plain-Change-clause-answer g c =
    let says = subst (SaysCommand c.args.line.now) c.in-Ok-Plain-Change.field-0-0-is (subst (SaysStudio c.args.line.now) c.in-Ok-Plain-Change.field-0-is c.in-Ok-Plain-Change.ensures.command) in
    let replied = c.reply_to_edit in
    let built = replied.ensures.built in (
      built.0,
      change_in_studio c.args.history.now c.args.line.now c.in-Ok-Plain-Change.edit replied.result built.0 replied.new.history says replied.ensures.answer replied.ensures.memory built.1,
      built.2,
    )

pub returns-in-Ok-Plain-Score-clause-answer : goal.returns-in-Ok-Plain-Score-clause-answer
returns-in-Ok-Plain-Score-clause-answer g c =
    let says = subst (SaysCommand c.args.line.now) c.in-Ok-Plain-Score.field-0-0-is (subst (SaysStudio c.args.line.now) c.in-Ok-Plain-Score.field-0-is c.in-Ok-Plain-Score.ensures.command) in
    let replied = c.reply_with_score in
    (0, score_in_studio c.args.history.now c.session.result.now.grammar c.session.result.now.performance c.session.ensures.grammar c.session.ensures.performance c.args.line.now replied.result says replied.ensures.answer, omega arith)

pub returns-in-Ok-Plain-Alternatives-clause-answer : goal.returns-in-Ok-Plain-Alternatives-clause-answer
returns-in-Ok-Plain-Alternatives-clause-answer g c =
    let says = subst (SaysCommand c.args.line.now) c.in-Ok-Plain-Alternatives.field-0-0-is (subst (SaysStudio c.args.line.now) c.in-Ok-Plain-Alternatives.field-0-is c.in-Ok-Plain-Alternatives.ensures.command) in
    let replied = c.reply_with_alternatives in
    let session = c.session-in-Ok-Plain-Alternatives in
    (0, alternatives_in_studio c.args.history.now session.result.now.grammar session.result.now.performance session.ensures.grammar session.ensures.performance c.args.line.now _ _ _ replied.result says replied.ensures.answer replied.ensures.memory, omega arith)

pub returns-in-Ok-Plain-Quit-clause-answer : goal.returns-in-Ok-Plain-Quit-clause-answer
returns-in-Ok-Plain-Quit-clause-answer g c =
    let says = subst (SaysCommand c.args.line.now) c.in-Ok-Plain-Quit.field-0-0-is (subst (SaysStudio c.args.line.now) c.in-Ok-Plain-Quit.field-0-is c.in-Ok-Plain-Quit.ensures.command) in
    (0, quit_in_studio c.args.history.now c.args.line.now says, omega arith)

pub returns-in-Err-BadLine-clause-answer : goal.returns-in-Err-BadLine-clause-answer
returns-in-Err-BadLine-clause-answer g c =
    (0, nothing_in_studio c.args.history.now c.args.line.now (c.in-Err-BadLine.ensures.bad c.in-Err-BadLine.field-0-is), omega arith)

pub returns-in-Err-Memory-clause-answer : goal.returns-in-Err-Memory-clause-answer
returns-in-Err-Memory-clause-answer g c =
    let lacks = c.in-Err-Memory.ensures in
    (0, memory_in_studio c.args.history.now c.args.line.now (lacks.shape c.in-Err-Memory.field-0-is) (lacks.memory c.in-Err-Memory.field-0-is), omega arith)

pub returns-in-Err-BadLine-clause-ends : goal.returns-in-Err-BadLine-clause-ends
returns-in-Err-BadLine-clause-ends g c =
    ((λ e. absurd (studio_line_is_no_bye e)), λ quits. absurd (c.in-Err-BadLine.ensures.bad c.in-Err-BadLine.field-0-is (Plain Quit) quits))
