use Rattle.std.proofs.Common.{◌++◌, ap, sym, ◌∙◌}
use Rattle.std.specs.Prelude.{codes}
use Rattle.musicxml_writer.specs.Notes.{key_marks, notations}
use Rattle.musicxml_writer.proofs.Appended.{element_after, none_after}
use Rattle.musicxml_writer.proofs.MarkedNotes.{key_marked, key_unmarked}
use Rattle.musicxml_writer.proofs.marks.push_key_notations.Goals as goal

pub returns-in_ok-close : goal.returns-in_ok-close
returns-in_ok-close c =
    let marks = key_marks c.args.bracket c.args.note.now c.args.lowest in
    element_after (codes "notations") marks c.args.text.now.items c.open.new.text.items c.push_key_marks.new.text.items c.close.new.text.items
    c.in_ok-open.ensures c.in_ok-push_key_marks.ensures c.in_ok-close.ensures
    ∙ ap (λ t. c.args.text.now.items ++ t)
    (sym (key_marked c.args.bracket c.args.note.now c.args.lowest (sym c.is_marked.ensures ∙ c.if-is_marked.true)))

pub returns-else-is_marked : goal.returns-else-is_marked
returns-else-is_marked c =
    none_after c.args.text.now.items (notations (key_marks c.args.bracket c.args.note.now c.args.lowest))
    (key_unmarked c.args.bracket c.args.note.now c.args.lowest (sym c.is_marked.ensures ∙ c.if-is_marked.false))
