use Rattle.std.proofs.Common.{length}
use Rattle.score_words.proofs.WrittenKeys.{AreKeysWritten}
use Rattle.lily_writer.specs.Pitches.{lily_pitch}
use Rattle.lily_writer.proofs.chord.push_pitches.Given as goal

abbrev pub invariant-keys : goal.invariant-keys
invariant-keys l = AreKeysWritten (lily_pitch l.flats) l.fn.keys l.initial.text.items l.text.items l.number l.left

abbrev pub decreases-keys : goal.decreases-keys
decreases-keys l = length l.left
