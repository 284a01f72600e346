use Rattle.std.proofs.Common.{◌++◌, ap, ◌∙◌}
use Rattle.std.specs.Prelude.{codes, decimal}
use Rattle.std.proofs.lemmas.Result.{on_ok_weaker}
use Rattle.notation.specs.Notes.{Note}
use Rattle.musicxml_writer.specs.Elements.{element}
use Rattle.musicxml_writer.specs.Notes.{chord_mark, key_marks, key_text, notations, tie_ends}
use Rattle.musicxml_writer.specs.Pitches.{key_pitch}
use Rattle.musicxml_writer.specs.Values.{value_text}
use Rattle.musicxml_writer.proofs.Appended.{line_after, six}
use Rattle.musicxml_writer.proofs.note.push_key.Goals as goal

pub returns : goal.returns
unfolding key_text
returns c =
    let s = c.args.setting in
    let n = c.args.note.now in
    let mark = chord_mark c.args.lowest in
    let pitch = key_pitch s.sf c.args.key in
    let duration = element (codes "duration") (decimal n.duration) in
    let ties = tie_ends (codes "tie") n in
    let value = value_text s.ratio n.value in
    let drawn = notations (key_marks s.bracket n c.args.lowest) in
    let inner = six c.open.new.text.items c.push_chord_mark.new.text.items c.push_key_pitch.new.text.items c.push_count.new.text.items
    c.push_tie_ends.new.text.items c.push_value.new.text.items c.push_key_notations.new.text.items mark pitch duration ties value drawn
    c.in_ok-push_chord_mark.ensures c.in_ok-push_key_pitch.ensures
    (c.in_ok-push_count.ensures
    ∙ ap (λ (m : Note). c.push_key_pitch.new.text.items ++ element (codes "duration") (decimal m.duration)) c.note.view_is)
    c.in_ok-push_tie_ends.ensures
    (c.in_ok-push_value.ensures ∙ ap (λ (m : Note). c.push_tie_ends.new.text.items ++ value_text s.ratio m.value) c.note.view_is)
    c.in_ok-push_key_notations.ensures in
    on_ok_weaker c.close_line.result
    (λ h. line_after (codes "note") (mark ++ pitch ++ duration ++ ties ++ value ++ drawn) c.args.text.now.items c.open.new.text.items
    c.push_key_notations.new.text.items c.close_line.new.text.items c.in_ok-open.ensures inner h)
    c.close_line.ensures
