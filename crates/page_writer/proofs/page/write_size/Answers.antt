use Rattle.std.proofs.Common.{◌++◌, ap, ◌∙◌}
use Rattle.std.specs.Prelude.{codes, decimal}
use Rattle.page_writer.specs.Page.{staff_size}
use Rattle.page_writer.proofs.Lines.{line_of_three}
use Rattle.page_writer.proofs.page.write_size.Goals as goal

pub returns : goal.returns
returns c =
    line_of_three c.args.text.now.items (codes "#(set-global-staff-size ") (decimal (staff_size c.args.staves)) (codes ")") c.extend_from_slice.new.self.items
    c.push_number.new.text.items c.extend_from_slice-2.new.self.items c.in_ok-extend_from_slice.ensures.items
    (c.in_ok-push_number.ensures ∙ ap (λ n. c.extend_from_slice.new.self.items ++ decimal n) c.staff_size.ensures) c.in_ok-extend_from_slice-2.ensures.items
