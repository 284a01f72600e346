-- Barlines and what they cost.
use Rattle.std.specs.Prelude.{ℕ, ◌+◌, ◌-◌, Bool, true, nat_lt, if◌then◌else◌, List, length, slice_index, fold, Option, Some, None}
use Rattle.rhythm_base.specs.Lists.{last_end}
use Rattle.barline_follow.specs.declared.heads.Heads.{Heads}

-- barlines, the sum of the prices of their bars, and what their trees cost
pub record Barring : Type 0 where
  pub ticks : List ℕ
  pub prices : ℕ
  pub cost : ℕ

abbrev pub barring_value : Barring → ℕ
barring_value b = b.cost + b.prices

-- the last barline
abbrev pub barring_end : Barring → ℕ
barring_end b = last_end 0 b.ticks

-- the length of the last bar, 0 where there is none
abbrev pub last_length : List ℕ → ℕ
last_length ticks = slice_index ticks (length ticks - 1) - slice_index ticks (length ticks - 2)

-- barlines that go on, with the head costs of each voice
pub record Course : Type 0 where
  pub barring : Barring
  pub heads : List Heads

abbrev pub course_value : Course → ℕ
course_value t = barring_value t.barring

abbrev pub course_end : Course → ℕ
course_end t = barring_end t.barring

-- the first of least value
abbrev pub better : Option Barring → Barring → Option Barring
better None b = Some b
better (Some best) b = if nat_lt (barring_value b) (barring_value best) then Some b else Some best

abbrev pub best_of : Option Barring → List Barring → Option Barring
best_of best bs = fold better best bs

-- its value is below that of the best, where there is one
abbrev pub is_below : Option Barring → Barring → Bool
is_below None b = true
is_below (Some best) b = nat_lt (barring_value b) (barring_value best)
