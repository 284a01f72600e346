use Rattle.std.proofs.Common.{◌++◌, length}
use Rattle.std.specs.Prelude.{codes}
use Rattle.durations.specs.Pitch.{pitch}
use Rattle.score_words.proofs.WrittenKeys.{AreKeysWritten}
use Rattle.kern_writer.proofs.chord.push_grace.Given as goal

abbrev pub invariant-keys : goal.invariant-keys
invariant-keys l = AreKeysWritten (λ k. codes "q" ++ pitch l.flats k) l.fn.keys l.initial.text.items l.text.items l.number l.left

abbrev pub decreases-keys : goal.decreases-keys
decreases-keys l = length l.left
