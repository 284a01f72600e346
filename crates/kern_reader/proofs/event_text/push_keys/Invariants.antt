use Rattle.std.proofs.Common.{◌≡◌, ◌++◌, length}
use Rattle.kern_reader.specs.EventText.{keys_text, listed_on}
use Rattle.kern_reader.proofs.event_text.push_keys.Given as goal

abbrev pub invariant-keys : goal.invariant-keys
invariant-keys l = l.text.items ++ listed_on l.first l.left ≡ l.initial.text.items ++ keys_text l.fn.keys

abbrev pub decreases-keys : goal.decreases-keys
decreases-keys l = length l.left
