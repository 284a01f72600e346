use Rattle.std.proofs.Common.{◌≡◌, take}
use Rattle.smf_writer.specs.Strokes.{joined_keys}
use Rattle.smf_writer.proofs.event_strokes.joined.Given as goal

abbrev pub invariant-graces : goal.invariant-graces
invariant-graces l = l.all ≡ joined_keys (take l.keys-index l.graces)
