use Rattle.std.proofs.Common.{◌≡◌, ℕ, ◌*◌, ◌^◌, ◌≤◌}
use Rattle.notation.proofs.place.odd_part.Given as goal

abbrev pub invariant-halvings : goal.invariant-halvings
invariant-halvings l = record { some : 1 ≤ l.odd; halved : (k : ℕ) × (l.fn.number ≡ l.odd * 2 ^ k) }

abbrev pub decreases-halvings : goal.decreases-halvings
decreases-halvings l = l.odd
