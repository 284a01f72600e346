-- What was found is looked up, and is found again.
use Rattle.std.specs.Prelude.{◌≡◌, ℕ, ◌+◌, ◌*◌, ◌/◌, ◌%◌, ◌<◌, ◌^◌, length, slice_get, Option, Some, None, Result, Ok}
use Rattle.grammar_plan.specs.declared.seat.Seat.{Seat}
use Rattle.least_rows.specs.States.{HasRow, HasState}
use Rattle.least_rows.specs.declared.rows.Rows.{Rows}
use Rattle.least_rows.specs.declared.search.Search.{Search}
use Rattle.least_rows.specs.declared.state.RowSpan.{RowSpan}

-- the slot in which the state of a seat from a unit on is looked for
abbrev pub slot_at : Seat → (place : ℕ) → ℕ
slot_at s place = (s.base + place * s.inverse % 2 ^ 32 / 2 ^ 16) % 2 ^ 32

-- the slot has this number, and the state of the number is of this seat from this unit on
abbrev pub HasSlot : Rows → (slot seat place : ℕ) → ℕ → Type 0
HasSlot rows slot seat place n = (slice_get rows.table.items slot ≡ Some n) × HasState rows n seat place

-- the number is the one that the slot has of this state; none where it has none of it
abbrev pub IsLookedUp : Rows → (slot seat place : ℕ) → Option ℕ → Type 0
IsLookedUp rows slot seat place None = (n : ℕ) → HasSlot rows slot seat place n → ⊥
IsLookedUp rows slot seat place (Some n) = HasSlot rows slot seat place n

-- the slot has the number, where the table is long enough
abbrev pub IsInSlot : Rows → (slot seat place : ℕ) → ℕ → Type 0
IsInSlot rows slot seat place n = slot < length rows.table.items → HasSlot rows slot seat place n

-- and so of the slot of the seat
abbrev pub IsKept : Search → Rows → (seat place : ℕ) → ℕ → Type 0
IsKept bar rows seat place n = (s : Seat) → slice_get bar.plan.now.seats.items seat ≡ Some s → IsInSlot rows (slot_at s place) seat place n

-- the number that the slot has is given, and nothing is added
abbrev pub GivesState : {E : Type 0} → Search → (old new : Rows) → (seat place : ℕ) → Result ℕ E → Type 0
GivesState bar old new seat place result =
    (s : Seat) (n : ℕ) → slice_get bar.plan.now.seats.items seat ≡ Some s → HasSlot old (slot_at s place) seat place n → (result ≡ Ok n) × (new ≡ old)

-- the row that the state knows is given, and nothing is added
abbrev pub GivesRow : {E : Type 0} → (old new : Rows) → (number from : ℕ) → Result RowSpan E → Type 0
GivesRow old new number from result = (span : RowSpan) → HasRow old number from span → (result ≡ Ok span) × (new ≡ old)
