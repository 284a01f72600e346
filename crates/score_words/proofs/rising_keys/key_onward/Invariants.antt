use Rattle.std.proofs.Common.{◌≡◌}
use Rattle.score_words.specs.Keys.{keys_onward}
use Rattle.score_words.proofs.rising_keys.key_onward.Given as goal

abbrev pub invariant-keys : goal.invariant-keys
invariant-keys l = keys_onward l.keys l.key ≡ keys_onward l.keys l.fn.from
