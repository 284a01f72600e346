use Rattle.std.proofs.Common.{length}
use Rattle.score_words.proofs.WrittenKeys.{AreKeysWritten}
use Rattle.page_writer.specs.Pitches.{page_pitch}
use Rattle.page_writer.proofs.chord.push_pitches.Given as goal

abbrev pub invariant-keys : goal.invariant-keys
invariant-keys l = AreKeysWritten (page_pitch l.sf) l.fn.keys l.initial.text.items l.text.items l.number l.left

abbrev pub decreases-keys : goal.decreases-keys
decreases-keys l = length l.left
