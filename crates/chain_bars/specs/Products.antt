-- How many products a change of a chain makes.
use Rattle.std.specs.Prelude.{ℕ, ◌*◌, ◌≤◌, ◌^◌}
use Rattle.rhythm_base.specs.Counter.{risen}

-- a counter rose, by at most d steps, or by twice d, where there are at most 2 ^ d cells
abbrev pub RisesOnce : ℕ → ℕ → ℕ → Type 0
RisesOnce cells old new = (old ≤ new) × ((d : ℕ) → cells ≤ 2 ^ d → new ≤ risen old d)

abbrev pub RisesTwice : ℕ → ℕ → ℕ → Type 0
RisesTwice cells old new = (old ≤ new) × ((d : ℕ) → cells ≤ 2 ^ d → new ≤ risen old (2 * d))
