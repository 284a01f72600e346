-- Bytes that are moved piece by piece.
use Rattle.std.proofs.Common.{ℕ, ◌+◌, ◌-◌, ◌≤◌, List, length, take, drop, Option, arith, length-drop}
use Rattle.std.proofs.Math.Seq.{take-add}
use Rattle.std.proofs.lemmas.List.{take_rest}
use Rattle.std.proofs.KnownBytes.{Appends-trans}
use Rattle.std.specs.Io.KnownBytes.{Appends}

-- the first n bytes were appended, and then the first k of the rest
pub Appends-more : (a b c : Option (List ℕ)) (xs : List ℕ) (n k : ℕ) → n ≤ length xs
    → Appends a b (take n xs)
    → k ≤ length (take (length xs - n) (drop n xs))
    → Appends b c (take k (take (length xs - n) (drop n xs)))
    → (n + k ≤ length xs) × Appends a c (take (n + k) xs)
Appends-more a b c xs n k within first bound next =
    let bound' = rw take_rest at bound in
    let next' = rw take_rest at next in
    (omega (arith, length-drop n xs), rw take-add (Appends-trans a b c (take n xs) (take k (drop n xs)) first next'))
