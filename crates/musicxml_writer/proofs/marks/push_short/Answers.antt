use Rattle.std.proofs.Common.{◌++◌, ap, sym, ◌∙◌}
use Rattle.std.specs.Prelude.{codes}
use Rattle.musicxml_writer.specs.Elements.{element, empty_element, text_if}
use Rattle.musicxml_writer.specs.Notes.{short_mark}
use Rattle.musicxml_writer.proofs.Appended.{element_after}
use Rattle.musicxml_writer.proofs.marks.push_short.Goals as goal

pub returns-in_ok-close : goal.returns-in_ok-close
unfolding short_mark
returns-in_ok-close c =
    let mark = empty_element (codes "staccato") in
    element_after (codes "articulations") mark c.args.text.now.items c.open.new.text.items c.push_empty.new.text.items c.close.new.text.items
    c.in_ok-open.ensures c.in_ok-push_empty.ensures c.in_ok-close.ensures
    ∙ ap (λ b. c.args.text.now.items ++ text_if b (element (codes "articulations") mark)) (sym c.if-short.true)
