use Rattle.std.proofs.Common.{length}
use Rattle.score_words.proofs.WrittenKeys.{AreKeysWritten}
use Rattle.kern_writer.specs.Tokens.{note_text}
use Rattle.kern_writer.proofs.chord.push_notes.Given as goal

abbrev pub invariant-keys : goal.invariant-keys
invariant-keys l = AreKeysWritten (note_text l.flats l.value l.next) l.value.sound.keys l.initial.text.items l.text.items l.number l.left

abbrev pub decreases-keys : goal.decreases-keys
decreases-keys l = length l.left
