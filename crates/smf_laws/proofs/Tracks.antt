-- Tracks are read back, event after event.
use Rattle.std.proofs.Common.{◌≡◌, ℕ, ◌+◌, ◌-◌, ◌<◌, ◌≤◌, List, [], ◌∷◌, ◌++◌, length, length-append, drop, map, ap, ◌∙◌, subst, None, Ok, Result, arith}
use Rattle.std.specs.Prelude.{Option}
use Rattle.std.proofs.lemmas.List.{length-drop}
use Rattle.rhythm_base.specs.declared.event.Event.{Event}
use Rattle.rhythm_base.specs.declared.event.What.{What}
use Rattle.rhythm_base.specs.declared.event.What.TheVariants.{On, Off, Tempo, Signature, KeySig}
use Rattle.smf_bytes.specs.Message.{message_bytes}
use Rattle.smf_bytes.specs.Quantity.{quantity_bytes}
use Rattle.smf_bytes.specs.Track.{bytes_from, end_of_track_bytes, timed_message}
use Rattle.smf_bytes.specs.declared.quantity.TheConstants.{GREATEST_QUANTITY}
use Rattle.smf_reader.specs.Outcome.{◌>>=◌}
use Rattle.smf_reader.specs.Played.{Track}
use Rattle.smf_reader.specs.Ranges.{IsSaid}
use Rattle.smf_reader.specs.Track.{begun_by, events, silence}
use Rattle.smf_reader.proofs.StandingBytes.{stands_after}
use Rattle.smf_reader.proofs.StandingEvents.{end_read}
use Rattle.smf_laws.specs.Laws.{TracksReadBack}
use Rattle.smf_laws.specs.Written.{AreLater}
use Rattle.smf_laws.proofs.Messages.{IsReadFirst, message_first}
use Rattle.smf_laws.proofs.Quantities.{quantity_read}

-- events are not after the last tick
pub later_within : (t last : ℕ) (es : List Event) → AreLater t es last → t ≤ last
later_within t last [] later = later
later_within t last (e ∷ es) later = omega (arith, later.0, later_within e.tick last es later.2)

some_bytes : (bytes : List ℕ) (p : ℕ) (front rest : List ℕ) → 1 ≤ length rest → drop p bytes ≡ front ++ rest → p < length bytes
some_bytes bytes p front rest some at = omega (arith, length-drop p bytes, ap length at, length-append front rest)

some_message : (what : What) (rest : List ℕ) → 1 ≤ length (message_bytes what ++ rest)
some_message (On channel key) rest = omega arith
some_message (Off channel key) rest = omega arith
some_message (Tempo micros) rest = omega arith
some_message (Signature num dd) rest = omega arith
some_message (KeySig sf) rest = omega arith

-- a delta time and a message
event_first : (bytes : List ℕ) (t p u : ℕ) (running : Option ℕ) (what : What) (rest : List ℕ) → t ≤ u → u ≤ GREATEST_QUANTITY → IsSaid what → drop p bytes ≡ quantity_bytes (u - t) ++ (message_bytes what ++ rest)
    → IsReadFirst bytes t p u running what rest
event_first bytes t p u running what rest le early said at =
    let message : List ℕ = message_bytes what ++ rest in
    let same : t + (u - t) ≡ u = omega arith in
    let P : ℕ → Type 0 = λ v. IsReadFirst bytes t p v running what rest in
    subst P same (message_first bytes t p (u - t) (p + length (quantity_bytes (u - t))) running (quantity_read bytes p (u - t) message (omega arith) at) (some_bytes bytes p (quantity_bytes (u - t)) message (some_message what rest) at) (omega arith) rest what said
    (stands_after bytes p (quantity_bytes (u - t)) message at))

-- a delta time and the end of the track
last_read : (bytes : List ℕ) (t p u : ℕ) (running : Option ℕ) → t ≤ u → u ≤ GREATEST_QUANTITY → drop p bytes ≡ quantity_bytes (u - t) ++ end_of_track_bytes → events (length bytes) bytes t running p ≡ Ok (silence u)
last_read bytes t p u running le early at =
    let q = p + length (quantity_bytes (u - t)) in
    let same : t + (u - t) ≡ u = omega arith in
    subst (λ v. events (length bytes) bytes t running p ≡ Ok (silence v)) same
    (end_read bytes t p (u - t) q running (quantity_read bytes p (u - t) end_of_track_bytes (omega arith) at) (some_bytes bytes p (quantity_bytes (u - t)) end_of_track_bytes (omega arith) at) (omega arith) []
    (stands_after bytes p (quantity_bytes (u - t)) end_of_track_bytes at))

-- the events and the end of the track after a tick
events_read : (bytes : List ℕ) (t p : ℕ) (running : Option ℕ) (es : List Event) (last : ℕ) → last ≤ GREATEST_QUANTITY → AreLater t es last → drop p bytes ≡ bytes_from t (map timed_message es ++ (last, end_of_track_bytes) ∷ [])
    → events (length bytes) bytes t running p ≡ Ok (record { events = es; last = last })
unfolding bytes_from
events_read bytes t p running [] last early later at = last_read bytes t p last running later early at
events_read bytes t p running (e ∷ es) last early later at =
    let rest : List ℕ = bytes_from e.tick (map timed_message es ++ (last, end_of_track_bytes) ∷ []) in
    let within = later_within e.tick last es later.2 in
    let first = event_first bytes t p e.tick running e.what rest later.0 (omega arith) later.1 at in
    first.read
    ∙ ap (λ (r : Result Track _). r >>= λ more. Ok (begun_by e.tick e.what more)) (events_read bytes e.tick first.next first.status es last early later.2 first.at)

pub tracks_read : TracksReadBack
tracks_read t bytes p can at = events_read bytes 0 p None t.events t.last can.early can.later at
