use Rattle.edit_script.specs.ReplyText.{reply_text}
use Rattle.edit_script.proofs.SendingLemmas.{last_part}
use Rattle.edit_script.proofs.reply_lines.write_reply.Goals as goal

pub returns-clause-part : goal.returns-clause-part
returns-clause-part g c =
    last_part _ _ _ _ _ _ (reply_text c.args.reply.now) c.hand_on.result c.new-held.ensures c.in_ok-write_gathered.ensures.written c.hand_on.ensures.handed
