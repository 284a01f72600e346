use Rattle.std.proofs.Common.{◌≡◌, ◌+◌, length}
use Rattle.score_words.specs.Keys.{rising_keys}
use Rattle.score_words.proofs.rising_keys.key_count.Given as goal

abbrev pub invariant-keys : goal.invariant-keys
invariant-keys l = l.count + length l.left ≡ length (rising_keys l.fn.keys)

abbrev pub decreases-keys : goal.decreases-keys
decreases-keys l = length l.left
