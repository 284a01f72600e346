-- Events of a track (Standard MIDI Files 1.0, "MTrk event"): a delta time and a message.
use Rattle.rhythm_base.specs.declared.limits.TheConstants.{LATEST_EVENT}
use Rattle.std.specs.Prelude.{ℕ, ◌+◌, nat_le, if◌then◌else◌, List, Option, Result, Ok, Err}
use Rattle.smf_reader.specs.declared.fault.SmfFault.{SmfFault}
use Rattle.smf_reader.specs.declared.fault.SmfFault.TheVariants.{TooLate}
use Rattle.smf_reader.specs.declared.event.Step.{Step}
use Rattle.smf_reader.specs.Outcome.{◌>>=◌}
use Rattle.smf_reader.specs.Quantity.{quantity}
use Rattle.smf_reader.specs.Message.{status, running_after, message}

-- the tick that the delta time at the place p leads to, at most 1,000,000,000, and the place after it
unfoldable pub tick_after : List ℕ → ℕ → ℕ → Result (ℕ × ℕ) SmfFault
tick_after bytes tick p = do
  delta ← quantity bytes p
  if nat_le (tick + delta.0) LATEST_EVENT then Ok (tick + delta.0, delta.1) else Err (TooLate p)

-- the event at the place p, after the tick and the last channel status
unfoldable pub event : List ℕ → ℕ → Option ℕ → ℕ → Result Step SmfFault
event bytes tick running p = do
  at ← tick_after bytes tick p
  head ← status bytes running at.1
  said ← message bytes at.1 head.0 head.1
  Ok (record { tick = at.0; meaning = said.0; running = running_after head.0 running; next = said.1 })
