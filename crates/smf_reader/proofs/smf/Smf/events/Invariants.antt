use Rattle.std.proofs.Common.{◌≡◌, take}
use Rattle.std.specs.List.{flat_map}
use Rattle.smf_reader.proofs.smf.Smf.events.Given as goal

abbrev pub invariant-loop-track : goal.invariant-loop-track
invariant-loop-track l = l.events.items ≡ flat_map (λ t. t.events) (take l.track-index l.track-items)
