use Rattle.std.proofs.Common.{◌≡◌, ◌++◌, ◌==◌, drop}
use Rattle.std.specs.Prelude.{true}
use Rattle.musicxml_writer.specs.Bars.{notes_text}
use Rattle.musicxml_writer.proofs.bar.push_group.Given as goal

abbrev pub invariant-notes : goal.invariant-notes
invariant-notes l =
    l.text.items ++ notes_text l.sf l.group.ratio (l.number == 0) (drop l.number l.notes) ≡ l.initial.text.items ++ notes_text l.sf l.group.ratio true l.notes
