-- Numbered things put in the places of their numbers.
use Rattle.std.specs.Prelude.{◌≡◌, ℕ, List, Option, Some, None, slice_get}

-- each thing stands at its number
abbrev pub StandIn : {T : Type 0} → List (ℕ × T) → List T → Type 0
StandIn {T} numbered things = (k : ℕ) (p : ℕ × T) → slice_get numbered k ≡ Some p → slice_get things p.0 ≡ Some p.1

-- each thing stands at its number, among places that may be empty
abbrev pub StandAt : {T : Type 0} → List (ℕ × T) → List (Option T) → Type 0
StandAt {T} numbered places = (k : ℕ) (p : ℕ × T) → slice_get numbered k ≡ Some p → slice_get places p.0 ≡ Some (Some p.1)

-- no place is empty
abbrev pub AreFilled : {T : Type 0} → List (Option T) → Type 0
AreFilled places = (k : ℕ) → slice_get places k ≡ Some None → ⊥
