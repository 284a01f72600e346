use Rattle.std.proofs.Common.{◌≡◌, ◌++◌, take}
use Rattle.std.specs.List.{enumerate_from, flat_map}
use Rattle.notes_writer.specs.NotesText.{bar_record}
use Rattle.notes_writer.proofs.notes_text.push_bars.Given as goal

abbrev pub invariant-bars : goal.invariant-bars
invariant-bars l = l.text.items ≡ l.initial.text.items ++ flat_map bar_record (enumerate_from 0 (take l.number l.bars))
