-- The ranges of the numbers of an edit.
use Rattle.rhythm_base.specs.declared.limits.TheConstants.{LATEST_TICK, MOST_BARS}
use Rattle.std.specs.Prelude.{◌<◌, ◌≤◌, IsTrue, ⊤}
use Rattle.rhythm_base.specs.declared.edit.Edit.{Edit}
use Rattle.rhythm_base.specs.declared.edit.Edit.TheVariants.{Add, Drop, Move, Barline, Pin, Unpin, AddBar, DropBar}
use Rattle.rhythm_base.specs.Shapes.{is_shape}

-- the numbers of an edit are in the ranges of the edit script, and its shape can be that of a tree
abbrev pub IsEditInRange : Edit → Type 0
IsEditInRange (Add channel key onset end) = (channel < 16) × (key < 128) × (onset ≤ LATEST_TICK) × (end ≤ LATEST_TICK)
IsEditInRange (Drop channel key onset) = (channel < 16) × (key < 128) × (onset ≤ LATEST_TICK)
IsEditInRange (Move channel key onset to) = (channel < 16) × (key < 128) × (onset ≤ LATEST_TICK) × (to ≤ LATEST_TICK)
IsEditInRange (Barline bar tick) = (bar ≤ MOST_BARS) × (tick ≤ LATEST_TICK)
IsEditInRange (Pin channel bar shape) = (channel < 16) × (bar ≤ MOST_BARS) × IsTrue (is_shape shape)
IsEditInRange (Unpin channel bar) = (channel < 16) × (bar ≤ MOST_BARS)
IsEditInRange AddBar = ⊤
IsEditInRange DropBar = ⊤
