use Rattle.std.proofs.Common.{sym, subst}
use Rattle.std.specs.Prelude.{IfErr}
use Rattle.edit_script.specs.Sending.{TakesPart}
use Rattle.session_history.specs.StudioReplies.{studio_reply_text}
use Rattle.session_history.proofs.NoStepText.{part_taken}
use Rattle.session_history.proofs.studio_lines.write_studio_reply.Goals as goal

pub returns-in-NoStep-clause-part : goal.returns-in-NoStep-clause-part
returns-in-NoStep-clause-part g c =
    subst (λ reply. IfErr c.write_all.result (λ e. TakesPart (g.K.Sink.taken c.args.sink.now) (g.K.Sink.taken c.write_all.new.sink) e.sent (studio_reply_text reply)))
    (sym c.in-NoStep.is)
    (part_taken (g.K.Sink.taken c.args.sink.now) (g.K.Sink.taken c.write_all.new.sink) c.write_all.result c.write_all.ensures.part c.write_all.ensures.within)
