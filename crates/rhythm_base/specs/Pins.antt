-- The pins of a performance.
use Rattle.std.specs.Prelude.{ℕ, Bool, ◌&&◌, ◌==◌, not, List, filter, find, Option}
use Rattle.rhythm_base.specs.declared.pin.Pin as pin
use Rattle.rhythm_base.specs.Shape.{Shape}
use Rattle.rhythm_base.specs.declared.pin.Pin.{Pin}
use Rattle.std.specs.Option.{option_map}

abbrev pub is_pin : ℕ → ℕ → pin.Pin → Bool
is_pin channel bar q = (q.channel == channel) && (q.bar == bar)

abbrev pub without_pin : ℕ → ℕ → List pin.Pin → List pin.Pin
without_pin channel bar pins = filter (λ q. not (is_pin channel bar q)) pins

abbrev pub pin_of : List Pin → ℕ → ℕ → Option Shape
pin_of pins channel bar = option_map (λ q. q.shape) (find (is_pin channel bar) pins)
