use Rattle.std.proofs.Common.{◌++◌, ap, ◌∙◌}
use Rattle.std.specs.Prelude.{codes, decimal}
use Rattle.page_writer.proofs.Lines.{line_of_five}
use Rattle.page_writer.proofs.staff.write_head.Goals as goal

pub returns : goal.returns
returns c =
    line_of_five c.args.text.now.items (codes "\\new Staff \\with { instrumentName = \"Channel ") (decimal c.args.channel) (codes "\" shortInstrumentName = \"")
    (decimal c.args.channel) (codes "\" } {") c.extend_from_slice.new.self.items c.push_number.new.text.items c.extend_from_slice-2.new.self.items
    c.push_number-2.new.text.items c.extend_from_slice-3.new.self.items c.in_ok-extend_from_slice.ensures.items
    (c.in_ok-push_number.ensures ∙ ap (λ n. c.extend_from_slice.new.self.items ++ decimal n) c.from.ensures) c.in_ok-extend_from_slice-2.ensures.items
    (c.in_ok-push_number-2.ensures ∙ ap (λ n. c.extend_from_slice-2.new.self.items ++ decimal n) c.from-2.ensures) c.in_ok-extend_from_slice-3.ensures.items
