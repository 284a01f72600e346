use Rattle.std.proofs.Common.{◌≤◌, take}
use Rattle.std.specs.List.{flat_map}
use Rattle.edit_script.specs.Replies.{shown_text}
use Rattle.edit_script.specs.ReplyText.{shown_by}
use Rattle.edit_script.specs.Sending.{Sent}
use Rattle.edit_script.proofs.reply_lines.write_each.Given as goal

abbrev pub invariant-alternatives : goal.invariant-alternatives
invariant-alternatives g l = record {
  sent : Sent (g.K.Sink.taken l.initial.sink) (g.K.Sink.taken l.sink) l.initial.held l.held (flat_map (λ a. shown_text (shown_by a)) (take l.alt-index l.alts));
  later : g.K.Sink.faults l.initial.sink ≤ g.K.Sink.faults l.sink;
}
