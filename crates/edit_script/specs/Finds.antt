-- An answer that decides whether there is a value of a kind.
use Rattle.std.specs.Prelude.{Option, Some, None}

-- a value of the kind, and none exactly where there is no such value
abbrev pub Finds : {T : Type 0} → (T → Type 0) → Option T → Type 0
Finds Is (Some x) = Is x
Finds {T} Is None = (x : T) → Is x → ⊥
