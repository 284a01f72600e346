use Rattle.std.proofs.Common.{◌++◌, ap, sym, ◌∙◌}
use Rattle.std.specs.Prelude.{codes}
use Rattle.musicxml_writer.specs.Notes.{bracket_ends, notations}
use Rattle.musicxml_writer.proofs.Appended.{element_after, none_after}
use Rattle.musicxml_writer.proofs.MarkedNotes.{rest_marked, rest_unmarked}
use Rattle.musicxml_writer.proofs.marks.push_rest_notations.Goals as goal

pub returns-in_ok-close : goal.returns-in_ok-close
returns-in_ok-close c =
    element_after (codes "notations") (bracket_ends c.args.bracket) c.args.text.now.items c.open.new.text.items c.push_bracket_ends.new.text.items
    c.close.new.text.items c.in_ok-open.ensures c.in_ok-push_bracket_ends.ensures c.in_ok-close.ensures
    ∙ ap (λ t. c.args.text.now.items ++ t) (sym (rest_marked c.args.bracket (sym c.has_ends.ensures ∙ c.if-has_ends.true)))

pub returns-else-has_ends : goal.returns-else-has_ends
returns-else-has_ends c =
    none_after c.args.text.now.items (notations (bracket_ends c.args.bracket))
    (rest_unmarked c.args.bracket (sym c.has_ends.ensures ∙ c.if-has_ends.false))
