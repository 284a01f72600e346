-- What is known of a cell by the unit.
use Rattle.std.specs.Prelude.{◌≡◌, ℕ, ◌+◌, ◌*◌, ◌-◌, ◌<◌, ◌≤◌, ◌⊎◌, zero, suc, max, List, length, slice_index_or}
use Rattle.rhythm_base.specs.BarInput.{BarInput}
use Rattle.rhythm_base.specs.Grammar.{Grammar}
use Rattle.rhythm_base.specs.declared.inner.Inner.{Inner}
use Rattle.row_laws.specs.Grounds.{ground_of}
use Rattle.row_laws.specs.QuietTrees.{IsQuiet}
use Rattle.row_laws.specs.declared.quiet.Quiet.{Quiet}
use Rattle.row_laws.specs.declared.quiet.Quiet.TheVariants.{Sounding, Silent}
use Rattle.bar_view.specs.Points.{IsPoint}
use Rattle.bar_view.specs.declared.point.Point.{Point}
use Rattle.bar_view.specs.declared.stretch.Stretch.{Stretch}
use Rattle.bar_view.specs.declared.units.Units.{Units}

-- so many chords of the cell, the first ones, have their onsets before the unit, and the others do not
pub record SplitsAt (k : BarInput) (unit n : ℕ) : Type 0 where
  pub within : n ≤ length k.chords
  pub low : (i : ℕ) (d : Inner) → i < n → (slice_index_or k.chords i d).onset * k.resolution < unit * k.length
  pub high : (i : ℕ) (d : Inner) → n ≤ i → i < length k.chords → unit * k.length ≤ (slice_index_or k.chords i d).onset * k.resolution

-- the end of the chord before the chord i: before the first it is that of the last one before the bar
abbrev pub end_of_earlier : BarInput → ℕ → Inner → ℕ
end_of_earlier k zero d = k.before
end_of_earlier k (suc i) d = (slice_index_or k.chords i d).end

-- so many begin before each unit from one on up to another
abbrev pub SplitsAll : BarInput → ℕ → ℕ → ℕ → Type 0
SplitsAll k from to n = (unit : ℕ) → from ≤ unit → unit ≤ to → SplitsAt k unit n

-- this is the point at which the chord before the chord i ends
abbrev pub IsEndOfEarlier : BarInput → ℕ → Point → Type 0
IsEndOfEarlier k i p = (d : Inner) → IsPoint k.length (end_of_earlier k i d * k.resolution) p

-- the units from u on to the end of the stretch are quiet, as it says
pub record IsStretch (k : BarInput) (u : ℕ) (s : Stretch) : Type 0 where
  pub within : s.until ≤ k.resolution
  pub quiet : (g : Grammar) → g.resolution ≡ k.resolution → IsQuiet s.quiet (ground_of g k) u (s.until - u)

-- so they are where the stretch ends after u
abbrev pub IsQuietFrom : BarInput → ℕ → Stretch → Type 0
IsQuietFrom k u s = u < s.until → IsStretch k u s

-- no units from u on are quiet past the end of the stretch
abbrev pub IsWhole : BarInput → ℕ → Stretch → Type 0
IsWhole k u s = (g : Grammar) (q : Quiet) (w : ℕ) → g.resolution ≡ k.resolution → 1 ≤ w → u + w ≤ k.resolution → IsQuiet q (ground_of g k) u w → u + w ≤ s.until

-- the chord after the first n begins in the unit, or the unit is the end of the bar
abbrev pub BeginsIn : BarInput → ℕ → ℕ → Type 0
BeginsIn k n u = (u ≡ k.resolution) ⊎ ((n < length k.chords) × ((d : Inner) → (slice_index_or k.chords n d).onset * k.resolution < (u + 1) * k.length))

-- the first units of the cell: how many onsets are before each, and whether it is quiet
pub record AreUnits (k : BarInput) (v : Units) : Type 0 where
  pub alike : length v.quiet.items ≡ length v.below.items
  pub below : (u : ℕ) → u < length v.below.items → SplitsAt k u (slice_index_or v.below.items u 0)
  pub quiet : (u : ℕ) (d : Stretch) → u < length v.quiet.items → IsQuietFrom k u (slice_index_or v.quiet.items u d)
  pub whole : (u : ℕ) (d : Stretch) → u < length v.quiet.items → IsWhole k u (slice_index_or v.quiet.items u d)

-- where a unit is so long and a chord ends at this distance from the bar's start, the unit u sounds to its end, or is over
-- the end, and so do the others up to the end of its stretch, which is not past the unit `next`
abbrev pub SoundsSo : Quiet → ℕ → ℕ → ℕ → ℕ → Type 0
SoundsSo Sounding length at u until = until * length ≤ at
SoundsSo Silent length at u until = at ≤ u * length

abbrev pub IsUnitPart : ℕ → ℕ → ℕ → ℕ → Stretch → Type 0
IsUnitPart length at next u s = u < s.until → (s.until ≤ next) × SoundsSo s.quiet length at u s.until

-- it has all units up to `next` that do so
abbrev pub IsUnitWhole : ℕ → ℕ → ℕ → ℕ → Stretch → Type 0
IsUnitWhole length at next u s = (q : Quiet) (w : ℕ) → 1 ≤ w → u + w ≤ next → SoundsSo q length at u (u + w) → u + w ≤ s.until

-- ---- lists of stretches that are filled

-- the units that stood there are as they were
abbrev pub KeepsUnits : List Stretch → List Stretch → Type 0
KeepsUnits old new = (unit : ℕ) (d : Stretch) → unit < length old → slice_index_or new unit d ≡ slice_index_or old unit d

-- the list was filled up to a unit with what is alike
pub record IsFilled (next : ℕ) (stretch : Stretch) (old new : List Stretch) : Type 0 where
  pub long : length new ≡ max (length old) next
  pub same : KeepsUnits old new
  pub more : (unit : ℕ) (d : Stretch) → length old ≤ unit → unit < next → slice_index_or new unit d ≡ stretch

-- it was filled up to a unit before which no chord begins, where the last chord ends at the point
pub record IsFilledFrom (end : Point) (next : ℕ) (old new : List Stretch) : Type 0 where
  pub long : length new ≡ max (length old) next
  pub same : KeepsUnits old new
  pub parts : (ticks at unit : ℕ) (d : Stretch) → IsPoint ticks at end → length old ≤ unit → unit < next → IsUnitPart ticks at next unit (slice_index_or new unit d)
  pub whole : (ticks at unit : ℕ) (d : Stretch) → 1 ≤ ticks → IsPoint ticks at end → length old ≤ unit → unit < next → IsUnitWhole ticks at next unit (slice_index_or new unit d)
