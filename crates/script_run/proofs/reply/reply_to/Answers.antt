use Rattle.std.proofs.Common.{arith, subst}
use Rattle.edit_script.specs.ScriptLines.{SaysCommand}
use Rattle.edit_script.specs.declared.command.Command.TheVariants.{Quit}
use Rattle.script_run.proofs.Replies.{alternatives_line, change_line, line_is_no_bye, memory_line, nothing_line, quit_line, score_line}
use Rattle.script_run.proofs.reply.reply_to.Goals as goal

pub returns-in-Ok-Change-clause-answer : goal.returns-in-Ok-Change-clause-answer
returns-in-Ok-Change-clause-answer g c =
    let says = subst (SaysCommand c.args.line.now) c.in-Ok-Change.field-0-is c.in-Ok-Change.ensures.command in
    let replied = c.reply_to_edit in
    let built = replied.ensures.built in (
      built.0,
      change_line c.args.session.now.grammar c.args.session.now.performance c.args.line.now c.in-Ok-Change.edit replied.result built.0 replied.new.session.performance says
          replied.ensures.answer replied.ensures.memory built.1,
      built.2,
    )

pub returns-in-Ok-Score-clause-answer : goal.returns-in-Ok-Score-clause-answer
returns-in-Ok-Score-clause-answer g c =
    let says = subst (SaysCommand c.args.line.now) c.in-Ok-Score.field-0-is c.in-Ok-Score.ensures.command in
    let replied = c.reply_with_score in
    (0, score_line c.args.session.now.grammar c.args.session.now.performance c.args.line.now replied.result says replied.ensures.answer, omega arith)

pub returns-in-Ok-Alternatives-clause-answer : goal.returns-in-Ok-Alternatives-clause-answer
returns-in-Ok-Alternatives-clause-answer g c =
    let says = subst (SaysCommand c.args.line.now) c.in-Ok-Alternatives.field-0-is c.in-Ok-Alternatives.ensures.command in
    let replied = c.reply_with_alternatives in
    (0, alternatives_line c.args.session.now.grammar c.args.session.now.performance c.args.line.now _ _ _ replied.result says replied.ensures.answer replied.ensures.memory, omega arith)

pub returns-in-Ok-Quit-clause-answer : goal.returns-in-Ok-Quit-clause-answer
returns-in-Ok-Quit-clause-answer g c =
    let says = subst (SaysCommand c.args.line.now) c.in-Ok-Quit.field-0-is c.in-Ok-Quit.ensures.command in
    (0, quit_line c.args.session.now.grammar c.args.session.now.performance c.args.line.now says, omega arith)

pub returns-in-Err-BadLine-clause-answer : goal.returns-in-Err-BadLine-clause-answer
returns-in-Err-BadLine-clause-answer g c =
    (0, nothing_line c.args.session.now.grammar c.args.session.now.performance c.args.line.now (c.in-Err-BadLine.ensures.bad c.in-Err-BadLine.field-0-is), omega arith)

pub returns-in-Err-Memory-clause-answer : goal.returns-in-Err-Memory-clause-answer
returns-in-Err-Memory-clause-answer g c =
    let lacks = c.in-Err-Memory.ensures in
    (0, memory_line c.args.session.now.grammar c.args.session.now.performance c.args.line.now (lacks.shape c.in-Err-Memory.field-0-is) (lacks.memory c.in-Err-Memory.field-0-is), omega arith)

pub returns-in-Err-BadLine-clause-ends : goal.returns-in-Err-BadLine-clause-ends
returns-in-Err-BadLine-clause-ends g c =
    ((λ e. absurd (line_is_no_bye e)), λ quits. absurd (c.in-Err-BadLine.ensures.bad c.in-Err-BadLine.field-0-is Quit quits))
