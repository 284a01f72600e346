-- By how much a counter rose.
use Rattle.std.proofs.Common.{◌≡◌, ℕ, ◌-◌, ◌≤◌, arith, List, length}
use Rattle.edit_session.specs.Prepared.{RisesBy}
use Rattle.rhythm_base.specs.Counter.{risen}

-- it rose by no more than m, and m is the number of the cells of a kind
pub rises_within : (old new m : ℕ) → old ≤ new → new ≤ risen old m → (Are : List (ℕ × ℕ) → Type 0) → ((cells : List (ℕ × ℕ)) → Are cells → m ≡ length cells)
    → RisesBy old new (λ n. (cells : List (ℕ × ℕ)) → Are cells → n ≤ length cells)
rises_within old new m low high Are number = (new - old, omega (arith, low, high), λ cells are. (let e = number cells are in omega (arith, low, high, e)))
