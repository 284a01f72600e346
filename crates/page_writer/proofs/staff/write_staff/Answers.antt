use Rattle.std.proofs.Common.{◌++◌, [], ◌∷◌, ap, ◌∙◌}
use Rattle.std.specs.Prelude.{None}
use Rattle.notation.specs.Clefs.{clef_of}
use Rattle.page_writer.specs.Staves.{bars_lines, clef_line, staff_end, staff_head}
use Rattle.score_words.specs.TextLines.{lines_text}
use Rattle.page_writer.proofs.BarsWritten.{staff_written}
use Rattle.page_writer.proofs.staff.write_staff.Goals as goal

pub returns : goal.returns
returns c =
    staff_written (staff_head c.args.channel) (clef_line (clef_of c.args.sounds.now)) (bars_lines c.args.first None c.args.bars.now c.args.most.now c.args.groups.now)
    staff_end c.args.text.now.items c.write_head.new.text.items c.write_clef.new.text.items c.write_bars.new.text.items c.extend_from_slice.new.self.items
    c.in_ok-write_head.ensures
    (c.in_ok-write_clef.ensures ∙ ap (λ clef. c.write_head.new.text.items ++ lines_text (clef_line clef ∷ [])) c.clef_of.ensures) c.in_ok-write_bars.ensures
    c.in_ok-extend_from_slice.ensures.items
