-- Where a seat stands in a bar.
use Rattle.std.specs.Prelude.{◌≡◌, ℕ, ◌+◌, ◌≤◌, slice_get, Option, Some, None}
use Rattle.grammar_plan.specs.Plans.{HasSeat}
use Rattle.grammar_plan.specs.declared.plan.Plan.{Plan}
use Rattle.grammar_plan.specs.declared.seat.Seat.{Seat}
use Rattle.least_rows.specs.declared.search.Search.{Search}

-- the seat of this number is there, and its interval from this unit on lies in the bar
abbrev pub IsSeatPlace : Search → ℕ → ℕ → Type 0
IsSeatPlace bar seat place = (s : Seat) × (slice_get bar.plan.now.seats.items seat ≡ Some s) × (place + s.width ≤ bar.input.now.resolution)

-- the seat of this number is that of the bar's root symbol over the whole bar
abbrev pub IsRoot : Search → ℕ → Type 0
IsRoot bar seat = HasSeat bar.plan.now seat (bar.input.now.resolution, bar.input.now.symbol)

abbrev pub width_of : Option Seat → ℕ
width_of None = 0
width_of (Some s) = s.width

-- the width of the seat of a number
abbrev pub width_at : Plan → ℕ → ℕ
width_at plan n = width_of (slice_get plan.seats.items n)
