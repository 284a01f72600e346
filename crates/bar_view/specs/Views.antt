-- When a view is that of a bar.
use Rattle.std.specs.Prelude.{◌≡◌, ℕ, ◌+◌, ◌*◌, ◌<◌, ◌≤◌, ◌↔◌, List, length, slice_index_or}
use Rattle.rhythm_base.specs.BarInput.{BarInput}
use Rattle.rhythm_base.specs.declared.inner.Inner.{Inner}
use Rattle.tree_laws.specs.Forests.{Ground}
use Rattle.row_laws.specs.QuietTrees.{IsQuiet}
use Rattle.row_laws.specs.declared.quiet.Quiet.{Quiet}
use Rattle.bar_view.specs.Units.{AreUnits, end_of_earlier}
use Rattle.bar_view.specs.declared.view.View.{View}

-- of the first n chords of the cell, each is attached to a leaf that it lies in from this double middle on, and of that before
-- the cell and of each of these, each sounds in a leaf up to this double middle
pub record AreHalves (k : BarInput) (n : ℕ) (lows highs : List ℕ) : Type 0 where
  pub halves_long : length lows ≡ n
  pub halves : (i middle : ℕ) (d : Inner) → i < n → (slice_index_or lows i 0 ≤ middle) ↔ (2 * ((slice_index_or k.chords i d).onset * k.resolution) ≤ middle * k.length)
  pub sounding_long : length highs ≡ n + 1
  pub sounding : (i middle : ℕ) (d : Inner) → i ≤ n → (middle ≤ slice_index_or highs i 0) ↔ (middle * k.length ≤ 2 * (end_of_earlier k i d * k.resolution))

-- the view of the first n chords of a cell and of the units up to the last one in which they begin
pub record IsViewTo (k : BarInput) (n : ℕ) (v : View) : Type 0 where
  pub units : AreUnits k v.units
  pub within : length v.units.below.items ≤ k.resolution
  pub past : (i : ℕ) (d : Inner) → i < n → (slice_index_or k.chords i d).onset * k.resolution < length v.units.below.items * k.length
  pub halves : AreHalves k n v.halves.items v.sounding.items

-- the w units from the unit p on are not quiet, however they sound
abbrev pub IsUnquiet : Ground → ℕ → ℕ → Type 0
IsUnquiet d p w = (q : Quiet) → 1 ≤ w → IsQuiet q d p w → ⊥

pub record IsViewOf (k : BarInput) (v : View) : Type 0 where
  pub units : AreUnits k v.units
  pub whole : length v.units.below.items ≡ k.resolution + 1
  pub halves : AreHalves k (length k.chords) v.halves.items v.sounding.items
