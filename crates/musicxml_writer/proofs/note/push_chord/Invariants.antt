use Rattle.std.proofs.Common.{◌≡◌, ◌++◌, length}
use Rattle.musicxml_writer.specs.Notes.{chord_text, key_text, keys_text}
use Rattle.musicxml_writer.proofs.note.push_chord.Given as goal

abbrev pub invariant-keys : goal.invariant-keys
invariant-keys l =
    l.text.items ++ keys_text (key_text l.setting l.note) l.lowest l.left
    ≡ l.initial.text.items ++ chord_text (key_text l.setting l.note) l.note.keys

abbrev pub decreases-keys : goal.decreases-keys
decreases-keys l = length l.left
