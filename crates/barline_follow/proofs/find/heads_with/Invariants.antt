use Rattle.std.proofs.Common.{◌≡◌, map, take}
use Rattle.std.specs.List.{zip}
use Rattle.barline_follow.specs.Costs.{costs_with_bar}
use Rattle.barline_follow.proofs.find.heads_with.Given as goal

abbrev pub invariant-voices : goal.invariant-voices
invariant-voices l =
    map (λ h. h.costs) l.longer.items ≡ map (λ pair. costs_with_bar pair.0.costs pair.1.costs) (zip (take l.voice l.heads) (take l.voice l.costs))
