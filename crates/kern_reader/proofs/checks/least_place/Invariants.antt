use Rattle.std.proofs.Common.{◌≡◌, fold, map, min, take}
use Rattle.kern_reader.proofs.checks.least_place.Given as goal

abbrev pub invariant-spines : goal.invariant-spines
invariant-spines l = l.least ≡ fold min l.initial.least (map (λ s. s.place) (take l.spine-index l.rest))
