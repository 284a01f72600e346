use Rattle.std.proofs.Common.{◌≡◌, ◌++◌, take}
use Rattle.std.specs.List.{flat_map}
use Rattle.musicxml_writer.specs.Notes.{chord_text, grace_text}
use Rattle.musicxml_writer.proofs.note.push_graces.Given as goal

abbrev pub invariant-chords : goal.invariant-chords
invariant-chords l = l.text.items ≡ l.initial.text.items ++ flat_map (chord_text (grace_text l.setting)) (take l.keys-index l.chords)
