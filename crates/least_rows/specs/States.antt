-- When all that was found of a bar is right.
use Rattle.std.specs.Prelude.{◌≡◌, ℕ, ◌+◌, ◌<◌, ◌≤◌, ◌^◌, All, List, ◌++◌, length, slice_get, slice_index_or, MatchOption, Some, None}
use Rattle.row_laws.specs.Leaves.{HasLeaf, IsCrowded}
use Rattle.grammar_plan.specs.Plans.{between, pair_of}
use Rattle.grammar_plan.specs.declared.seat.Seat.{Seat}
use Rattle.least_rows.specs.Searches.{ground_in}
use Rattle.least_rows.specs.declared.search.Search.{Search}
use Rattle.least_rows.specs.Entries.{IsRow}
use Rattle.least_rows.specs.declared.entry.Entry.{Entry}
use Rattle.least_rows.specs.declared.rows.Rows.{Rows}
use Rattle.least_rows.specs.declared.state.RowSpan.{RowSpan}
use Rattle.least_rows.specs.declared.state.State.{State}

-- the entries of a span are a row
pub record IsRowAt (bar : Search) (entries : List Entry) (p : ℕ) (q : ℕ × ℕ) (a : ℕ) (span : RowSpan) : Type 0 where
  pub few : span.count ≤ 5
  pub within : span.first + span.count ≤ length entries
  pub row : IsRow (ground_in bar) bar.plan.now p q a (between entries span.first (span.first + span.count))

-- a state is of a seat from a unit on, with its leaf, and each row that it knows is one
pub record IsState (bar : Search) (entries : List Entry) (x : State) : Type 0 where
  pub seat : Seat
  pub at : slice_get bar.plan.now.seats.items x.seat ≡ Some seat
  pub within : x.place + seat.width ≤ bar.input.now.resolution
  pub leaf : MatchOption x.leaf (IsCrowded bar.input.now x.place seat.width)
      (λ l. HasLeaf bar.grammar.now bar.input.now x.place seat.width l.own l.next l.sounds l.charges × (l.charges < 2 ^ 60))
  pub rows : (a : ℕ) (span : RowSpan) → a < 5 → slice_index_or x.rows a None ≡ Some span → IsRowAt bar entries x.place (pair_of seat) a span

-- all states are so
abbrev pub AreKnown : Search → Rows → Type 0
AreKnown bar rows = All (IsState bar rows.entries.items) rows.states.items

-- the state of this number is of this seat from this unit on
abbrev pub HasState : Rows → ℕ → (seat place : ℕ) → Type 0
HasState rows n seat place = (x : State) × (slice_get rows.states.items n ≡ Some x) × (x.seat ≡ seat) × (x.place ≡ place)

-- the state knows this row
abbrev pub HasRow : Rows → ℕ → ℕ → RowSpan → Type 0
HasRow rows n a span = (x : State) × (slice_get rows.states.items n ≡ Some x) × (slice_index_or x.rows a None ≡ Some span)

-- no entry and no state is lost, and no number is given anew
pub record Grows (old new : Rows) : Type 0 where
  pub entries : (more : List Entry) × (new.entries.items ≡ old.entries.items ++ more)
  pub states : (n seat place : ℕ) → HasState old n seat place → HasState new n seat place
