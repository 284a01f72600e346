use Rattle.std.proofs.Common.{◌≡◌, ◌-◌, ◌^◌, length, min, take}
use Rattle.std.specs.List.{flat_map}
use Rattle.smf_reader.proofs.smf.Smf.event_count.Given as goal

abbrev pub invariant-loop-track : goal.invariant-loop-track
invariant-loop-track l = l.count ≡ min (length (flat_map (λ t. t.events) (take l.track-index l.track-items))) (2 ^ 64 - 1)
