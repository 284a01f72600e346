use Rattle.std.proofs.Common.{arith, subst}
use Rattle.edit_script.specs.Replies.{shown_text}
use Rattle.edit_script.specs.ReplyText.{shown_by}
use Rattle.edit_script.specs.Sending.{Sent, SentPart}
use Rattle.edit_script.specs.declared.reply.Alt.{Alt}
use Rattle.edit_script.proofs.SendingLemmas.{fails, pieces_cut, pieces_more}
use Rattle.edit_script.proofs.reply_lines.write_each.Goals as goal

pub alternatives-preserved : goal.alternatives-preserved
alternatives-preserved g c =
    let P : Alt → Type 0 = λ a. Sent (g.K.Sink.taken c.alternatives.sink) (g.K.Sink.taken c.write_alternative.new.sink) c.alternatives.held c.write_alternative.new.held (shown_text (shown_by a)) in
    record {
      sent = pieces_more (λ a. shown_text (shown_by a)) _ _ _ _ _ _ c.args.alts.now c.alternatives.alt-index _ c.alternatives-test.true c.alternatives.invariant.sent
          (subst P c.alt-item.is c.in_ok-write_alternative.ensures.written);
      later = let before = c.alternatives.invariant.later in let after = c.write_alternative.ensures.cause.later in omega (arith, before, after);
    }

pub returns-in_err-write_alternative-clause-written : goal.returns-in_err-write_alternative-clause-written
returns-in_err-write_alternative-clause-written g c =
    let Cut : Alt → Type 0 = λ a. SentPart (g.K.Sink.taken c.alternatives.sink) (g.K.Sink.taken c.write_alternative.new.sink) c.alternatives.held c.in_err-write_alternative.field-0.0.sent (shown_text (shown_by a)) in
    fails _ _ _ _ _ c.from_residual.result c.in_err-write_alternative.field-0.0 (c.from_residual.ensures.0, c.from_residual.ensures.1)
    (pieces_cut (λ a. shown_text (shown_by a)) _ _ _ _ _ _ c.args.alts.now c.alternatives.alt-index _ c.alternatives-test.true c.alternatives.invariant.sent
    (subst Cut c.alt-item.is c.in_err-write_alternative.ensures.written))
