use Rattle.std.proofs.Common.{◌≡◌, map, take}
use Rattle.rhythm_base.specs.Lists.{greatest}
use Rattle.smf_reader.proofs.smf.Smf.last.Given as goal

abbrev pub invariant-loop-track : goal.invariant-loop-track
invariant-loop-track l = l.last ≡ greatest (map (λ t. t.last) (take l.track-index l.track-items))
