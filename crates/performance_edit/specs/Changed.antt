-- Notes and pins with one of them changed.
use Rattle.std.specs.Prelude.{ℕ, ◌≤◌, List, Option}
use Rattle.edit_laws.specs.Edits.{note_at, put_moved, without_note}
use Rattle.rhythm_base.specs.Shape.{Shape}
use Rattle.rhythm_base.specs.Lists.{list_with}
use Rattle.rhythm_base.specs.Performance.{place_of_pin}
use Rattle.rhythm_base.specs.Pins.{without_pin}
use Rattle.rhythm_base.specs.declared.limits.TheConstants.{LATEST_TICK}
use Rattle.rhythm_base.specs.declared.note.Note.{Note}
use Rattle.rhythm_base.specs.declared.pin.Pin.{Pin}

-- the notes with another onset of that of a channel, key and onset
abbrev pub with_moved : ℕ → ℕ → ℕ → ℕ → List Note → List Note
with_moved channel key onset to notes = put_moved to (note_at notes channel key onset) (without_note channel key onset notes)

-- a note that ends by the latest tick, and an onset for it by that tick
pub record CanMoveTo (to : ℕ) (n : Note) : Type 0 where
  pub onset : to ≤ LATEST_TICK
  pub end : n.end ≤ LATEST_TICK

-- the pins with this one in place of an older one
abbrev pub with_pin : ℕ → ℕ → Shape → List Pin → List Pin
with_pin channel bar shape pins =
    list_with place_of_pin (record { channel = channel; bar = bar; shape = shape }) (without_pin channel bar pins)
