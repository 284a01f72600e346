-- The text of each reply of a studio.
use Rattle.std.specs.Prelude.{ℕ, List, [], ◌∷◌, codes}
use Rattle.edit_script.specs.ReplyText.{reply_text}
use Rattle.edit_script.specs.Replies.{reply_line}
use Rattle.session_history.specs.declared.studio_reply.StudioReply.{StudioReply}
use Rattle.session_history.specs.declared.studio_reply.StudioReply.TheVariants.{NoStep, Plain}

-- there is no step that way
abbrev pub no_step_text : List ℕ
no_step_text = reply_line (codes "refused" ∷ codes "NoStep" ∷ [])

abbrev pub studio_reply_text : StudioReply → List ℕ
studio_reply_text (Plain reply) = reply_text reply
studio_reply_text NoStep = no_step_text
