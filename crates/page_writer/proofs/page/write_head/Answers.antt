use Rattle.page_writer.specs.Page.{paper_lines, size_line, version_lines}
use Rattle.page_writer.proofs.Lines.{lines_of_three}
use Rattle.page_writer.proofs.page.write_head.Goals as goal

pub returns : goal.returns
returns c =
    lines_of_three c.args.text.now.items version_lines (size_line c.args.staves) paper_lines c.extend_from_slice.new.self.items c.write_size.new.text.items
    c.write_paper.new.text.items c.in_ok-extend_from_slice.ensures.items c.in_ok-write_size.ensures c.in_ok-write_paper.ensures
