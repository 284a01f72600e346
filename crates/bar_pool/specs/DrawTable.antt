-- Draws at a table of one word: the word is the number that is drawn next, and each seat has a view. The table opens with
-- the word 0 and one seat for all workers. A draw adds one to the word. A split and a join only read it. At the close the
-- word and the views of the seats are still draws that meet the law.
use Rattle.std.specs.Prelude.{◌≡◌, ℕ, ◌+◌, ◌/◌, ◌<◌, ◌^◌, List, [], All, length, map, slice_index}
use Rattle.atomic_table.specs.Table.{Me, Step}
use Rattle.bar_pool.specs.Draws.{AreLawful, Draws, Seat, new_seat, seat_after, seat_less, seat_with}
use Rattle.bar_pool.specs.declared.draws.DrawCounts.{DrawCounts}
use Rattle.bar_pool.specs.declared.draws.SeatView.{SeatView}

-- the seat of a view
abbrev pub seat_of : SeatView → Seat
seat_of v = record { share = v.share; drawn = v.drawn; past = v.past }

-- the view of a seat that knows what the view knows of the inputs and the workers
abbrev pub view_of : SeatView → Seat → SeatView
view_of v s = record { share = s.share; drawn = s.drawn; past = s.past; inputs = v.inputs; workers = v.workers }

-- the view of a seat that drew the number
abbrev pub drawn_view : SeatView → ℕ → SeatView
drawn_view v number = view_of v (seat_after v.inputs number (seat_of v))

-- the draws that the table shows
abbrev pub draws_of : List ℕ → List SeatView → Draws
draws_of words views = record { next = slice_index words 0; seats = map seat_of views }

-- a view with a share has the counts of its table
abbrev pub HasCounts : DrawCounts → SeatView → Type 0
HasCounts c v = 0 < v.share → (v.inputs ≡ c.inputs) × (v.workers ≡ c.workers)

-- The rule: there is one word, the word and the views are draws that meet the law, and each view with a share has
-- the table's counts. These are so small that the word never wraps.
pub record IsDrawTable (c : DrawCounts) (words : List ℕ) (views : List SeatView) : Type 0 where
  pub word : length words ≡ 1
  pub lawful : AreLawful c.inputs c.workers (draws_of words views)
  pub counts : All (HasCounts c) views
  pub few : c.inputs + c.workers < 2 ^ 64

-- opening: the first seat stands for all workers
abbrev pub first_view : DrawCounts → SeatView
first_view c = record { share = c.workers; drawn = []; past = 0; inputs = c.inputs; workers = c.workers }

-- a draw: the number joins the seat's list if it is below that of the inputs, and is else one draw past them more; it is
-- above all that the seat drew
abbrev pub IsDrawn : {S : Type 0} → Step S → Me S SeatView → ℕ → Me S SeatView → Type 0
IsDrawn step before number after =
    (after.0 ≡ drawn_view before.0 number)
    × (after.1 ≡ before.1)
    × All (λ x. x < number) before.0.drawn

-- a split: a seat keeps the greater half of its share, and a new seat has the other
abbrev pub kept_half : SeatView → SeatView
kept_half v = view_of v (seat_less (v.share / 2) (seat_of v))

abbrev pub given_half : SeatView → SeatView
given_half v = view_of v (new_seat (v.share / 2))

-- a join: a seat takes over another's share, list and draws past the inputs
abbrev pub view_with : SeatView → SeatView → SeatView
view_with v other = view_of v (seat_with (seat_of v) (seat_of other))

-- the other seat after a join
abbrev pub spent_view : SeatView
spent_view = record { share = 0; drawn = []; past = 0; inputs = 0; workers = 0 }
