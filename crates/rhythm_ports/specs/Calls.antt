-- The calls of an object in memory.
use Rattle.std.specs.Prelude.{ℕ, Bool, List, Contains, length, min}
use Rattle.rhythm_ports.specs.Counts.{next_count, count_after}

-- the most bytes that a call moves, the numbers of the calls that fail, the number of the next call, and how many failed
pub record Calls : Type 0 where
  pub most : ℕ
  pub failing : List ℕ
  pub next : ℕ
  pub faults : ℕ

-- before any call
abbrev pub calls_at_start : ℕ → List ℕ → Calls
calls_at_start most failing = record { most = most; failing = failing; next = 0; faults = 0 }

-- the next call is one of those that fail
abbrev pub FailsNext : Calls → Type 0
FailsNext calls = Contains calls.failing calls.next

-- the calls after one more, by whether it failed
abbrev pub calls_after : Calls → Bool → Calls
calls_after calls failed = record calls { next = next_count calls.next; faults = count_after calls.faults failed }

-- how many bytes a read into a buffer moves of those that are left: as many as find room, up to the most of a call
abbrev pub moved_count : ℕ → List ℕ → List ℕ → ℕ
moved_count most buffer left = min (min (length left) (length buffer)) most
