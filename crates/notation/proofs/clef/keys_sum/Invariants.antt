use Rattle.std.proofs.Common.{◌≡◌, ◌+◌, length}
use Rattle.std.specs.Prelude.{sum}
use Rattle.score_words.specs.Keys.{rising_keys}
use Rattle.notation.proofs.clef.keys_sum.Given as goal

abbrev pub invariant-keys : goal.invariant-keys
invariant-keys l = record {
  count : l.count + length l.left ≡ length (rising_keys l.fn.keys);
  total : l.total + sum l.left ≡ sum (rising_keys l.fn.keys);
}

abbrev pub decreases-keys : goal.decreases-keys
decreases-keys l = length l.left
