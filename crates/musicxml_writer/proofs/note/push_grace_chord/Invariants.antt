use Rattle.std.proofs.Common.{◌≡◌, ◌++◌, length}
use Rattle.musicxml_writer.specs.Notes.{chord_text, grace_text, keys_text}
use Rattle.musicxml_writer.proofs.note.push_grace_chord.Given as goal

abbrev pub invariant-keys : goal.invariant-keys
invariant-keys l = l.text.items ++ keys_text (grace_text l.setting) l.lowest l.left ≡ l.initial.text.items ++ chord_text (grace_text l.setting) l.fn.keys

abbrev pub decreases-keys : goal.decreases-keys
decreases-keys l = length l.left
