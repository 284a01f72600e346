-- A cut of a seat on top, and the ways over its parts.
use Rattle.std.specs.Prelude.{◌≡◌, ◌⊎◌, ℕ, ◌+◌, ◌-◌, ◌<◌, ◌≤◌, ◌^◌, List, length, take, slice_get, slice_index_or, Option, Some}
use Rattle.rhythm_base.specs.Bodies.{children, sizes}
use Rattle.grammar_plan.specs.Plans.{IsCutOf, pair_of}
use Rattle.grammar_plan.specs.declared.cut.Cut.{Cut}
use Rattle.grammar_plan.specs.declared.seat.Seat.{Seat}
use Rattle.least_rows.specs.Searches.{ground_in}
use Rattle.least_rows.specs.declared.search.Search.{Search}
use Rattle.least_rows.specs.Choices.{choice_in, nearer_choice, topped_choice}
use Rattle.least_rows.specs.Ways.{AreWays, AreWaysBelow, one_way}
use Rattle.least_rows.specs.declared.choice.Choice.{Choice}
use Rattle.least_rows.specs.declared.fork.Fork.{Fork}
use Rattle.least_rows.specs.States.{IsRowAt}
use Rattle.least_rows.specs.Steps.{AreChoicesBefore}
use Rattle.least_rows.specs.declared.rows.Rows.{Rows}
use Rattle.least_rows.specs.declared.state.RowSpan.{RowSpan}
use Rattle.least_rows.specs.declared.top.Top.{Top}
use Rattle.least_rows.specs.declared.way.Way.{Way}

-- this is the cut, one of those of its seat, whose interval lies in the bar
pub record IsTop (bar : Search) (top : Top) (cut : Cut) : Type 0 where
  pub seat : Seat
  pub at : slice_get bar.plan.now.seats.items top.seat ≡ Some seat
  pub within : top.place + seat.width ≤ bar.input.now.resolution
  pub few : top.from < 5
  pub there : slice_get bar.plan.now.cuts.items top.number ≡ Some cut
  pub first : seat.first ≤ top.number
  pub end : top.number < seat.end
  pub is : IsCutOf bar.grammar.now bar.plan.now (pair_of seat) cut

-- these choices stand for the trees that are a leaf or have a cut of the seat before this one on top
abbrev pub AreChoicesBeforeTop : Search → Top → List (Option Choice) → Type 0
AreChoicesBeforeTop bar top choices = AreChoicesBefore bar top.seat top.place top.from top.number choices

-- or this one
abbrev pub AreChoicesWithTop : Search → Top → List (Option Choice) → Type 0
AreChoicesWithTop bar top choices = AreChoicesBefore bar top.seat top.place top.from (top.number + 1) choices

-- the widths and symbols of its parts
abbrev pub parts_below : (bar : Search) (top : Top) (cut : Cut) → IsTop bar top cut → List (ℕ × ℕ)
parts_below bar top cut t = children t.is.rule.body t.seat.width

-- these are the least ways over the parts before one of them, which begins at this unit
abbrev pub AreWaysTo : Search → Top → Cut → (part at : ℕ) → (ℕ → Option Way) → Type 0
AreWaysTo bar top cut part at ways =
    (t : IsTop bar top cut) → (at ≡ top.place + sizes (take (part - cut.first) (parts_below bar top cut t)))
    × AreWays (ground_in bar) top.place (parts_below bar top cut t) top.from (part - cut.first) ways

-- the least trees with the cut on top were offered
abbrev pub IsOffered : Search → Top → Cut → (old new : List (Option Choice)) → Type 0
IsOffered bar top cut old new =
    (t : IsTop bar top cut) → (ways : ℕ → Option Way)
    × AreWays (ground_in bar) top.place (parts_below bar top cut t) top.from (length (parts_below bar top cut t)) ways
    × ((b : ℕ) → b < 5 → choice_in new b ≡ nearer_choice (choice_in old b) (topped_choice cut top.number (ways b)))

-- the width and symbol of a part
abbrev pub part_at : (bar : Search) (top : Top) (cut : Cut) → IsTop bar top cut → ℕ → ℕ × ℕ
part_at bar top cut t part = slice_index_or (parts_below bar top cut t) (part - cut.first) (0, 0)

-- the span is the row of the part at which the fork is
abbrev pub IsRowOfPart : Search → Rows → Top → Cut → Fork → RowSpan → Type 0
IsRowOfPart bar rows top cut fork span = (t : IsTop bar top cut) → IsRowAt bar rows.entries.items fork.at (part_at bar top cut t fork.part) fork.count span

-- nothing was offered, since a way that leads alone over the first parts costs more than the limit
abbrev pub IsPassed : Search → Top → Cut → ℕ → (old new : List (Option Choice)) → Type 0
IsPassed bar top cut limit old new =
    (new ≡ old) × ((t : IsTop bar top cut) → (n : ℕ) × (w : Way) × (m : ℕ)
    × AreWays (ground_in bar) top.place (parts_below bar top cut t) top.from n (one_way w m) × (limit < w.cost) × (w.cost < 2 ^ 64))

-- what was offered, but for the trees whose way over the parts costs more than the limit
abbrev pub IsOfferedWithin : Search → Top → Cut → ℕ → (old new : List (Option Choice)) → Type 0
IsOfferedWithin bar top cut limit old new = IsOffered bar top cut old new ⊎ IsPassed bar top cut limit old new

-- the ways out of which fewer than n chords are carried up to the part were offered with each entry after them, with the cut on top
abbrev pub AreOfferedBelow : Search → Top → Cut → (part at : ℕ) → (ℕ → Option Way) → ℕ → (old new : List (Option Choice)) → Type 0
AreOfferedBelow bar top cut part at ways n old new =
    (t : IsTop bar top cut) → (next : ℕ → Option Way)
    × AreWaysBelow (ground_in bar) at (part_at bar top cut t part) ways n next
    × ((b : ℕ) → b < 5 → choice_in new b ≡ nearer_choice (choice_in old b) (topped_choice cut top.number (next b)))
