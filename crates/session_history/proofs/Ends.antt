-- What is taken from the ends of a list.
use Rattle.std.proofs.Common.{◌-◌, List, [], ◌∷◌, length, take, drop, slice_get, refl}
use Rattle.std.specs.Map.Iter.{TakesFirst, TakesLast}
use Rattle.circular_buffer.proofs.Items.{pops_last}
use Rattle.circular_buffer.specs.Buffer.{last_item}

pub last_taken : {X : Type 0} (xs : List X) → TakesLast (λ (x : X). x) xs (last_item xs) (take (length xs - 1) xs)
last_taken xs = pops_last xs

pub first_taken : {X : Type 0} (xs : List X) → TakesFirst (λ (x : X). x) xs (slice_get xs 0) (drop 1 xs)
first_taken [] = (refl, refl)
first_taken (x ∷ xs) = refl
