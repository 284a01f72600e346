use Rattle.std.proofs.Common.{◌≡◌, ◌++◌, take}
use Rattle.std.specs.List.{flat_map}
use Rattle.notes_writer.specs.NotesText.{tempo_record}
use Rattle.notes_writer.proofs.notes_text.push_tempos.Given as goal

abbrev pub invariant-tempos : goal.invariant-tempos
invariant-tempos l = l.text.items ≡ l.initial.text.items ++ flat_map tempo_record (take l.tempo-index l.tempos)
