use Rattle.notes_writer.specs.Line.{record_word}
use Rattle.notes_writer.proofs.Joined.{line_after}
use Rattle.notes_writer.proofs.line.push_line.Goals as goal

pub returns : goal.returns
returns c =
    line_after record_word c.args.name.now c.args.words.now c.extend_from_slice-2.result _ _ _ _
    c.in_ok-extend_from_slice.ensures.items c.in_ok-push_words.ensures
    c.extend_from_slice-2.ensures.items
