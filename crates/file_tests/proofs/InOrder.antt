-- The order of a list by tick, as contracts want it.
use Rattle.std.proofs.Common.{ℕ, List, map, arith}
use Rattle.std.specs.List.Sorted.{IsNonDecreasing, IsNonDecreasingBy}
use Rattle.std.proofs.lemmas.List.{get_or-map, length-map}

pub in_order : {X : Type 0} (tick : X → ℕ) (xs : List X) (e : X) → IsNonDecreasingBy tick xs → IsNonDecreasing (map tick xs)
in_order tick xs e h i j d le within =
    let long = length-map xs tick in
    omega (arith, long, get_or-map tick xs i e d (omega arith), get_or-map tick xs j e d (omega arith), h i j e le (omega arith))
