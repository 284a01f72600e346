use Rattle.std.proofs.Common.{map}
use Rattle.std.specs.Prelude.{codes}
use Rattle.page_writer.specs.Groups.{grace_text, silent_graces_text}
use Rattle.page_writer.specs.Words.{words_text}
use Rattle.page_writer.proofs.Lines.{word_of_four}
use Rattle.page_writer.proofs.note.push_graces.Goals as goal

pub returns : goal.returns
returns c =
    word_of_four c.args.text.now.items (codes "\\slashedGrace { ") (silent_graces_text c.args.silent) (words_text (map (grace_text c.args.sf) c.args.chords.now))
    (codes "}") c.extend_from_slice.new.self.items c.push_silent_graces.new.text.items c.push_grace_chords.new.text.items c.extend_from_slice-2.new.self.items
    c.in_ok-extend_from_slice.ensures.items c.in_ok-push_silent_graces.ensures c.in_ok-push_grace_chords.ensures c.in_ok-extend_from_slice-2.ensures.items
