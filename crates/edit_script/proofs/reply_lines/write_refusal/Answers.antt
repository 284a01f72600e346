use Rattle.std.proofs.Common.{ℕ, sym, subst}
use Rattle.edit_script.specs.Replies.{long_score_text}
use Rattle.edit_script.specs.ReplyText.{refusal_text}
use Rattle.edit_script.specs.Sending.{Writes}
use Rattle.edit_script.specs.declared.reply.Refusal.{Refusal}
use Rattle.edit_script.proofs.reply_lines.write_refusal.Goals as goal

pub returns-in-Line-clause-written : goal.returns-in-Line-clause-written
returns-in-Line-clause-written g c =
    let written = c.write_line in
    subst (λ (r : Refusal). Writes g.K.Sink.taken c.args.sink.now written.new.sink c.args.held.now written.new.held (refusal_text r) written.result) (sym c.in-Line.is)
    written.ensures.written

pub returns-in-ScoreTooLong-clause-written : goal.returns-in-ScoreTooLong-clause-written
returns-in-ScoreTooLong-clause-written g c =
    let written = c.write_line-in-ScoreTooLong in
    subst (λ (r : Refusal). Writes g.K.Sink.taken c.args.sink.now written.new.sink c.args.held.now written.new.held (refusal_text r) written.result)
    (sym c.in-ScoreTooLong.is)
    (subst (λ (n : ℕ). Writes g.K.Sink.taken c.args.sink.now written.new.sink c.args.held.now written.new.held (long_score_text n) written.result) c.from.ensures
    written.ensures.written)
