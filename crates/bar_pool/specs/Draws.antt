-- Numbers that are drawn in turn, each by one of several seats. The numbers below the count of the inputs are theirs; all others
-- are past the inputs.
use Rattle.std.specs.Prelude.{◌≡◌, ◌≢◌, ℕ, ◌+◌, ◌-◌, ◌<◌, ◌≤◌, min, nat_lt, ◌==◌, if◌then◌else◌}
use Rattle.std.specs.Prelude.{List, [], ◌∷◌, ◌++◌, All, length, Some, slice_get, slice_set, sum_by, count_by, flat_map}

-- One who draws: for how many workers it stands, the numbers of inputs that it drew, and how often it drew past the inputs.
pub record Seat : Type 0 where
  pub share : ℕ
  pub drawn : List ℕ
  pub past : ℕ

-- the number that is drawn next, and the seats
pub record Draws : Type 0 where
  pub next : ℕ
  pub seats : List Seat

-- the numbers that the seats drew, seat after seat
abbrev pub drawn_by_all : List Seat → List ℕ
drawn_by_all seats = flat_map (λ s. s.drawn) seats

-- how often the number stands in the list
abbrev pub occurrences : ℕ → List ℕ → ℕ
occurrences x xs = count_by (λ y. y == x) xs

-- the list has each number below n once, and no other
abbrev pub HasEachBelow : ℕ → List ℕ → Type 0
HasEachBelow n xs = (x : ℕ) → occurrences x xs ≡ (if nat_lt x n then 1 else 0)

-- the seat drew past the inputs at most as often as it stands for workers, and it has no number where it stands for none
pub record IsDrawSeat (s : Seat) : Type 0 where
  pub past : s.past ≤ s.share
  pub idle : s.share ≡ 0 → s.drawn ≡ []

-- The law of draws for so many inputs and so many workers. The shares of the seats are the workers. The seats together have
-- each number below both the next and the count of the inputs once, and no other. The next number is the count of these
-- numbers and of the draws past the inputs.
pub record AreLawful (inputs workers : ℕ) (draws : Draws) : Type 0 where
  pub shares : sum_by (λ s. s.share) draws.seats ≡ workers
  pub seats : All IsDrawSeat draws.seats
  pub once : HasEachBelow (min draws.next inputs) (drawn_by_all draws.seats)
  pub next : draws.next ≡ length (drawn_by_all draws.seats) + sum_by (λ s. s.past) draws.seats

-- a seat of this share that drew nothing
abbrev pub new_seat : ℕ → Seat
new_seat share = record { share = share; drawn = []; past = 0 }

-- the start: one seat, which stands for all workers
abbrev pub first_draws : ℕ → Draws
first_draws workers = record { next = 0; seats = new_seat workers ∷ [] }

-- a seat after it drew the number
abbrev pub seat_after : ℕ → ℕ → Seat → Seat
seat_after inputs number s =
    if nat_lt number inputs then record s { drawn = s.drawn ++ number ∷ [] } else record s { past = s.past + 1 }

-- a seat after it gave away a part of its share
abbrev pub seat_less : ℕ → Seat → Seat
seat_less part s = record s { share = s.share - part }

-- a seat after it took over the other
abbrev pub seat_with : Seat → Seat → Seat
seat_with s other = record { share = s.share + other.share; drawn = s.drawn ++ other.drawn; past = s.past + other.past }

-- The seat at this place draws; or it gives so great a part of its share to a new seat; or it takes over the seat at another
-- place.
pub data Event : Type 0 where
  draw : ℕ → Event
  split : ℕ → ℕ → Event
  join : ℕ → ℕ → Event

-- The draws after the event, where it can happen. A seat draws while it has fewer draws past the inputs than its share.
-- It takes the next number. A seat that is split keeps a share of at least one and of at least its draws past the inputs.
abbrev pub IsAfter : ℕ → Event → Draws → Draws → Type 0
IsAfter inputs (draw at) before after =
    (s : Seat) × (slice_get before.seats at ≡ Some s) × (s.past < s.share)
    × (after ≡ record { next = before.next + 1; seats = slice_set before.seats at (seat_after inputs before.next s) })
IsAfter inputs (split at part) before after =
    (s : Seat) × (slice_get before.seats at ≡ Some s) × (part < s.share) × (s.past + part ≤ s.share)
    × (after ≡ record before { seats = slice_set before.seats at (seat_less part s) ++ new_seat part ∷ [] })
IsAfter inputs (join at from) before after =
    (s : Seat) × (other : Seat) × (slice_get before.seats at ≡ Some s) × (slice_get before.seats from ≡ Some other) × (at ≢ from)
    × (after ≡ record before { seats = slice_set (slice_set before.seats at (seat_with s other)) from (new_seat 0) })

-- the draws after the events, one after another
abbrev pub IsRun : ℕ → List Event → Draws → Draws → Type 0
IsRun inputs [] before after = after ≡ before
IsRun inputs (event ∷ events) before after = (between : Draws) × IsAfter inputs event before between × IsRun inputs events between after
