-- The bytes that a text begins with.
use Rattle.std.proofs.Common.{◌≤◌, Bool, List, length}
use Rattle.std.proofs.lemmas.List.Sums.{prefix_len-le-length}
use Rattle.std.specs.List.{prefix_len}

pub prefix_within : {X : Type 0} (p : X → Bool) (xs : List X) → prefix_len p xs ≤ length xs
prefix_within p xs = prefix_len-le-length p xs
