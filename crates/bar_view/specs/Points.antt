-- Points of a bar, in ticks times units.
use Rattle.rhythm_base.specs.declared.limits.TheConstants.{LATEST_TICK}
use Rattle.std.specs.Prelude.{◌≡◌, ℕ, ◌+◌, ◌*◌, ◌<◌, ◌≤◌, ◌↔◌}
use Rattle.bar_view.specs.declared.point.Point.{Point}

-- where a unit is so long, the point at this distance from the bar's start lies in the unit, so far from its beginning
pub record IsPoint (length at : ℕ) (p : Point) : Type 0 where
  pub sum : p.unit * length + p.rest ≡ at
  pub inside : p.rest < length

-- it is no further from the beginning of its unit than a unit is long, and a bar has no more ticks than the latest
pub record IsShort (length : ℕ) (p : Point) : Type 0 where
  pub few_ticks : length ≤ LATEST_TICK
  pub rest : p.rest ≤ length

-- this is the first unit that does not begin before the point
abbrev pub IsFirstUnit : Point → ℕ → Type 0
IsFirstUnit p n = (length at : ℕ) → IsPoint length at p → (unit : ℕ) → (n ≤ unit) ↔ (at ≤ unit * length)

-- where a unit is so long, this is the first half of a unit that does not begin before it
abbrev pub IsFirstHalf : ℕ → Point → ℕ → Type 0
IsFirstHalf length p n = (at : ℕ) → IsPoint length at p → (half : ℕ) → (n ≤ half) ↔ (2 * at ≤ half * length)

-- and this the last one that does not begin after it
abbrev pub IsLastHalf : ℕ → Point → ℕ → Type 0
IsLastHalf length p n = (at : ℕ) → IsPoint length at p → (half : ℕ) → (half ≤ n) ↔ (half * length ≤ 2 * at)
