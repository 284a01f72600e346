-- The content of a track: messages, each with its tick, and then as bytes.
use Rattle.std.specs.Prelude.{ℕ, ◌-◌, ◌≤◌, List, [], ◌∷◌, ◌++◌, map}
use Rattle.rhythm_base.specs.declared.event.Event.{Event}
use Rattle.smf_bytes.specs.Message.{message_bytes}
use Rattle.smf_bytes.specs.Quantity.{quantity_bytes}

-- events in the order of their ticks, none before one tick and none after another
abbrev pub AreTimed : ℕ → List Event → ℕ → Type 0
AreTimed low [] last = low ≤ last
AreTimed low (e ∷ events) last = (low ≤ e.tick) × AreTimed e.tick events last

-- messages after tick t: each after the ticks that have passed since the message before it. No status is left out
unfoldable pub bytes_from : ℕ → List (ℕ × List ℕ) → List ℕ
bytes_from t [] = []
bytes_from t (event ∷ more) = quantity_bytes (event.0 - t) ++ (event.1 ++ bytes_from event.0 more)

abbrev pub end_of_track_bytes : List ℕ
end_of_track_bytes = 255 ∷ 47 ∷ 0 ∷ []

-- an event's tick and message
abbrev pub timed_message : Event → ℕ × List ℕ
timed_message e = (e.tick, message_bytes e.what)

-- the content of a track of these events, in the order of their ticks, which ends at a tick
abbrev pub content_bytes : List Event → ℕ → List ℕ
content_bytes events last = bytes_from 0 (map timed_message events ++ (last, end_of_track_bytes) ∷ [])
