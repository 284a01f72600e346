-- The text of each reply.
use Rattle.std.specs.Prelude.{ℕ, List, map, string_bytes}
use Rattle.std.specs.List.{flat_map}
use Rattle.edit_script.specs.Replies.{Shown, alternatives_text, bad_line_text, bye_text, done_text, long_score_text, refused_text, score_text, shown_text}
use Rattle.edit_script.specs.declared.reply.Alt.{Alt}
use Rattle.edit_script.specs.declared.reply.Refusal.{Refusal}
use Rattle.edit_script.specs.declared.reply.Refusal.TheVariants as refusal
use Rattle.edit_script.specs.declared.reply.Reply.{Reply}
use Rattle.edit_script.specs.declared.reply.Reply.TheVariants as reply

abbrev pub shown_by : Alt → Shown
shown_by alt = record { total = alt.total; shape = string_bytes alt.shape; rules = alt.rules.items }

-- the line of an alternative, the lines of some, and their number with a line for each
abbrev pub alt_text : Alt → List ℕ
alt_text alt = shown_text (shown_by alt)

abbrev pub alt_lines : List Alt → List ℕ
alt_lines alts = flat_map alt_text alts

abbrev pub list_text : List Alt → List ℕ
list_text alts = alternatives_text (map shown_by alts)

abbrev pub refusal_text : Refusal → List ℕ
refusal_text (refusal.Edit fault) = refused_text fault
refusal_text refusal.Line = bad_line_text
refusal_text (refusal.ScoreTooLong line) = long_score_text line

abbrev pub reply_text : Reply → List ℕ
reply_text (reply.Done built cost) = done_text built cost
reply_text (reply.Refused why) = refusal_text why
reply_text (reply.Text text) = score_text text.items
reply_text (reply.List alts) = list_text alts.items
reply_text reply.Bye = bye_text
