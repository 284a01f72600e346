-- A cell, one bar of one voice, as contracts see its input.
use Rattle.rhythm_base.specs.declared.limits.TheConstants.{LATEST_TICK, MOST_UNITS}
use Rattle.std.specs.Prelude.{ℕ, ◌<◌, ◌≤◌, List, All, Option}
use Rattle.rhythm_base.specs.declared.inner.Inner.{Inner}
use Rattle.rhythm_base.specs.Line.{Rising}
use Rattle.rhythm_base.specs.Shape.{Shape}
use Rattle.rhythm_base.specs.Signatures.{IsSignature}

-- the root symbol, the units of the bar, its signature and length in ticks, its chords and the end of the chord before
-- them, both in ticks from the bar's start, and the pin
pub record BarInput : Type 0 where
  pub symbol : ℕ
  pub resolution : ℕ
  pub num : ℕ
  pub den : ℕ
  pub length : ℕ
  pub chords : List Inner
  pub before : ℕ
  pub pin : Option Shape

-- a chord begins in the bar, and its end is cut to the bar
pub record IsInner (length : ℕ) (c : Inner) : Type 0 where
  pub onset : c.onset < length
  pub after : c.onset ≤ c.end
  pub end : c.end ≤ length

pub record IsBarInput (k : BarInput) : Type 0 where
  pub some_unit : 1 ≤ k.resolution
  pub few_units : k.resolution ≤ MOST_UNITS
  pub signature : IsSignature k.num k.den
  pub some_tick : 1 ≤ k.length
  pub few_ticks : k.length ≤ LATEST_TICK
  pub rising : Rising 0 k.chords
  pub chords : All (IsInner k.length) k.chords
  pub before : k.before ≤ k.length
