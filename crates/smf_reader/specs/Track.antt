-- Tracks (Standard MIDI Files 1.0, "Track Chunks"): events one after another, up to an end of track or the chunk's end.
use Rattle.std.specs.Prelude.{ℕ, zero, suc, nat_le, if◌then◌else◌, List, [], ◌∷◌, length, Option, None, Result, Ok}
use Rattle.rhythm_base.specs.declared.event.What.{What}
use Rattle.smf_reader.specs.declared.fault.SmfFault.{SmfFault}
use Rattle.smf_reader.specs.declared.meaning.Meaning.{Meaning}
use Rattle.smf_reader.specs.declared.meaning.Meaning.TheVariants as meanings
use Rattle.smf_reader.specs.Outcome.{◌>>=◌}
use Rattle.smf_reader.specs.Event.{event}
use Rattle.smf_reader.specs.Played.{Track}

-- nothing after an event at this tick
abbrev pub silence : ℕ → Track
silence tick = record { events = []; last = tick }

-- an event and what is played after it
abbrev pub begun_by : ℕ → What → Track → Track
begun_by tick what later = record { events = record { tick = tick; what = what } ∷ later.events; last = later.last }

-- an event with this meaning, and what is read after it. An end of track lets nothing follow
abbrev pub followed : Meaning → ℕ → Result Track SmfFault → Result Track SmfFault
followed (meanings.Event what) tick after = after >>= λ later. Ok (begun_by tick what later)
followed meanings.Skipped tick after = after
followed meanings.EndOfTrack tick after = Ok (silence tick)

-- the events from the place p on, at most n, after the tick and the last channel status
unfoldable pub events : ℕ → List ℕ → ℕ → Option ℕ → ℕ → Result Track SmfFault
events zero bytes tick running p = Ok (silence tick)
events (suc n) bytes tick running p =
    if nat_le (length bytes) p then Ok (silence tick) else (do
      step ← event bytes tick running p
      followed step.meaning step.tick (events n bytes step.tick step.running step.next))

-- the track whose events begin at the place p and whose chunk ends with the bytes: they are more than its events
abbrev pub track : List ℕ → ℕ → Result Track SmfFault
track bytes p = events (length bytes) bytes 0 None p
