use Rattle.edit_script.proofs.SendingLemmas.{SentPart-first, fails, writes_after}
use Rattle.edit_script.proofs.reply_lines.write_score.Goals as goal

pub returns-in_err-write_line-clause-written : goal.returns-in_err-write_line-clause-written
returns-in_err-write_line-clause-written g c =
    fails _ _ _ _ _ c.from_residual.result c.in_err-write_line.field-0.0 (c.from_residual.ensures.0, c.from_residual.ensures.1)
    (SentPart-first _ _ _ _ _ c.args.score.now c.in_err-write_line.ensures.written)

pub returns-clause-written : goal.returns-clause-written
returns-clause-written g c =
    writes_after _ _ _ _ _ _ _ c.args.score.now c.write.result c.in_ok-write_line.ensures.written c.write.ensures.written
