-- Events at a place of a track: what stands there is read, and what is after it.
use Rattle.rhythm_base.specs.declared.limits.TheConstants.{LATEST_EVENT}
use Rattle.std.proofs.Common.{◌≡◌, ℕ, ◌+◌, ◌<◌, ◌≤◌, ◌/◌, ◌%◌, ◌==◌, true, false, List, [], ◌∷◌, ◌++◌, length, length-append, drop, refl, ap, ◌∙◌, subst, Some, Ok, Result, arith}
use Rattle.std.specs.Prelude.{Option, nat_le, nat_lt}
use Rattle.std.proofs.lemmas.Bool.Decides.{nat_tests}
use Rattle.rhythm_base.specs.declared.event.What.TheVariants.{On, Off}
use Rattle.rhythm_base.specs.declared.event.What.{What}
use Rattle.smf_reader.specs.declared.fault.SmfFault.{SmfFault}
use Rattle.smf_reader.specs.Event.{event, tick_after}
use Rattle.smf_reader.specs.Message.{channel_message, message, note_meaning, status}
use Rattle.smf_reader.specs.Meta.{meta_event, meta_meaning}
use Rattle.smf_reader.specs.Outcome.{◌>>=◌}
use Rattle.smf_reader.specs.Quantity.{quantity}
use Rattle.smf_reader.specs.Track.{begun_by, events, followed, silence}
use Rattle.smf_reader.specs.declared.event.Step.{Step}
use Rattle.smf_reader.specs.declared.meaning.Meaning.{Meaning}
use Rattle.smf_reader.specs.declared.meaning.Meaning.TheVariants as meanings
use Rattle.smf_reader.proofs.ReadToTheEnd.{is_read_to_its_end}
use Rattle.smf_reader.proofs.StandingBytes.{byte_read, content_read, data_read, stands_after, stands_after_one, short_read, bytes_are_at}

module _ (bytes : List ℕ) (t p d q : ℕ) (running : Option ℕ) (delta : quantity bytes p ≡ Ok (d, q)) (early : t + d ≤ LATEST_EVENT) where
  -- the tick after the delta time
  tick_read : tick_after bytes t p ≡ Ok (t + d, q)
  unfolding tick_after
  tick_read =
      let soon : nat_le (t + d) LATEST_EVENT ≡ true = grind (arith, nat_tests) in
      rw (delta, soon) refl

-- a status that is there
status_read : (bytes : List ℕ) (running : Option ℕ) (p s : ℕ) (rest : List ℕ) → 128 ≤ s → drop p bytes ≡ s ∷ rest → status bytes running p ≡ Ok (s, p + 1)
unfolding status
status_read bytes running p s rest high at =
    let no : nat_lt s 128 ≡ false = grind (arith, nat_tests) in
    rw (byte_read bytes p s rest at, no) refl

-- a note on or a note off
note_read : (bytes : List ℕ) (p s key velocity : ℕ) (rest : List ℕ) → 128 ≤ s → s < 160 → key < 128 → velocity < 128 → drop p bytes ≡ s ∷ key ∷ velocity ∷ rest → message bytes p s (p + 1) ≡ Ok (note_meaning s key velocity, p + 1 + 2)
unfolding message channel_message
note_read bytes p s key velocity rest above below low soft at =
    let one = stands_after_one bytes p s (key ∷ velocity ∷ rest) at in
    let two = stands_after_one bytes (p + 1) key (velocity ∷ rest) one in
    let channel : nat_lt s 240 ≡ true = grind (arith, nat_tests) in
    let twelve : (s / 16 == 12) ≡ false = grind (arith, nat_tests) in
    let thirteen : (s / 16 == 13) ≡ false = grind (arith, nat_tests) in
    rw (channel, data_read bytes (p + 1) key (velocity ∷ rest) low one, twelve, thirteen, data_read bytes (p + 1 + 1) velocity rest soft two) refl

on_meaning : (s channel key velocity : ℕ) → s / 16 ≡ 9 → s % 16 ≡ channel → 0 < velocity → note_meaning s key velocity ≡ meanings.Event (On channel key)
on_meaning s channel key velocity nine same loud =
    let t : nat_lt 0 velocity ≡ true = grind (arith, nat_tests) in
    rw (nine, same, t) refl

off_meaning : (s channel key velocity : ℕ) → s / 16 ≡ 8 → s % 16 ≡ channel → note_meaning s key velocity ≡ meanings.Event (Off channel key)
off_meaning s channel key velocity eight same = rw (eight, same) refl

-- a meta event
meta_read : (bytes : List ℕ) (p type : ℕ) (said rest : List ℕ) (meaning : Meaning) → length said < 128 → meta_meaning type said ≡ Some meaning → drop p bytes ≡ 255 ∷ type ∷ length said ∷ (said ++ rest) → meta_event bytes p ≡ Ok (meaning, p + 2 + 1 + length said)
unfolding meta_event
meta_read bytes p type said rest meaning short means at =
    let one = stands_after_one bytes p 255 (type ∷ length said ∷ (said ++ rest)) at in
    let two = stands_after bytes p (255 ∷ type ∷ []) (length said ∷ (said ++ rest)) at in
    let three = stands_after_one bytes (p + 2) (length said) (said ++ rest) two in
    let size = bytes_are_at bytes (p + 2) (length said) (said ++ rest) two in
    let room : p + 2 + 1 + length said ≤ length bytes = omega (arith, size, length-append said rest) in
    rw (byte_read bytes (p + 1) type (length said ∷ (said ++ rest)) one, short_read bytes (p + 2) (length said) (said ++ rest) short two, content_read bytes (p + 2 + 1) said rest room three, means) refl

-- what an event leads to, where the events go on after it
goes_on : (bytes : List ℕ) (t p : ℕ) (running : Option ℕ) (step : Step) → p < length bytes → event bytes t running p ≡ Ok step
    → events (length bytes) bytes t running p ≡ followed step.meaning step.tick (events (length bytes) bytes step.tick step.running step.next)
goes_on bytes t p running step lt read =
    let P : Result Step SmfFault → Type 0 = λ r. events (length bytes) bytes t running p ≡ (r >>= λ s. followed s.meaning s.tick (events (length bytes) bytes s.tick s.running s.next)) in
    subst P read ((is_read_to_its_end bytes).on t running p lt)

module _ (bytes : List ℕ) (t p d q : ℕ) (running : Option ℕ) (delta : quantity bytes p ≡ Ok (d, q)) (lt : p < length bytes) (early : t + d ≤ LATEST_EVENT) where
  note_event : (s key velocity : ℕ) (rest : List ℕ) → 128 ≤ s → s < 160 → key < 128 → velocity < 128 → drop q bytes ≡ s ∷ key ∷ velocity ∷ rest
      → event bytes t running p ≡ Ok (record { tick = t + d; meaning = note_meaning s key velocity; running = Some s; next = q + 1 + 2 })
  unfolding event
  note_event s key velocity rest above below low soft at =
      let channel : nat_lt s 240 ≡ true = grind (arith, nat_tests) in
      rw (tick_read bytes t p d q running delta early, status_read bytes running q s (key ∷ velocity ∷ rest) above at, note_read bytes q s key velocity rest above below low soft at, channel) refl

  meta : (type : ℕ) (said rest : List ℕ) (meaning : Meaning) → length said < 128 → meta_meaning type said ≡ Some meaning → drop q bytes ≡ 255 ∷ type ∷ length said ∷ (said ++ rest)
      → event bytes t running p ≡ Ok (record { tick = t + d; meaning = meaning; running = running; next = q + 2 + 1 + length said })
  unfolding event message
  meta type said rest meaning short means at =
      rw (tick_read bytes t p d q running delta early, status_read bytes running q 255 (type ∷ length said ∷ (said ++ rest)) (omega arith) at, meta_read bytes q type said rest meaning short means at) refl

  -- a note on that sounds
  pub note_on_read : (channel key velocity : ℕ) (rest : List ℕ) → channel < 16 → key < 128 → 0 < velocity → velocity < 128 → drop q bytes ≡ (144 + channel) ∷ key ∷ velocity ∷ rest
      → events (length bytes) bytes t running p ≡ (events (length bytes) bytes (t + d) (Some (144 + channel)) (q + 1 + 2) >>= λ later. Ok (begun_by (t + d) (On channel key) later))
  note_on_read channel key velocity rest few low loud soft at =
      let s = 144 + channel in
      let after = events (length bytes) bytes (t + d) (Some s) (q + 1 + 2) in
      goes_on bytes t p running (record { tick = t + d; meaning = note_meaning s key velocity; running = Some s; next = q + 1 + 2 }) lt (note_event s key velocity rest (omega arith) (omega arith) low soft at)
      ∙ ap (λ (m : Meaning). followed m (t + d) after) (on_meaning s channel key velocity (omega arith) (omega arith) loud)

  -- a note off
  pub note_off_read : (channel key velocity : ℕ) (rest : List ℕ) → channel < 16 → key < 128 → velocity < 128 → drop q bytes ≡ (128 + channel) ∷ key ∷ velocity ∷ rest
      → events (length bytes) bytes t running p ≡ (events (length bytes) bytes (t + d) (Some (128 + channel)) (q + 1 + 2) >>= λ later. Ok (begun_by (t + d) (Off channel key) later))
  note_off_read channel key velocity rest few low soft at =
      let s = 128 + channel in
      let after = events (length bytes) bytes (t + d) (Some s) (q + 1 + 2) in
      goes_on bytes t p running (record { tick = t + d; meaning = note_meaning s key velocity; running = Some s; next = q + 1 + 2 }) lt (note_event s key velocity rest (omega arith) (omega arith) low soft at)
      ∙ ap (λ (m : Meaning). followed m (t + d) after) (off_meaning s channel key velocity (omega arith) (omega arith))

  -- the end of the track
  pub end_read : (rest : List ℕ) → drop q bytes ≡ 255 ∷ 47 ∷ 0 ∷ rest → events (length bytes) bytes t running p ≡ Ok (silence (t + d))
  end_read rest at =
      goes_on bytes t p running (record { tick = t + d; meaning = meanings.EndOfTrack; running = running; next = q + 2 + 1 + 0 }) lt (meta 47 [] rest meanings.EndOfTrack (omega arith) refl at)

  -- a meta event that is kept
  pub meta_event_read : (type : ℕ) (said rest : List ℕ) (what : What) → length said < 128 → meta_meaning type said ≡ Some (meanings.Event what) → drop q bytes ≡ 255 ∷ type ∷ length said ∷ (said ++ rest)
      → events (length bytes) bytes t running p ≡ (events (length bytes) bytes (t + d) running (q + 2 + 1 + length said) >>= λ later. Ok (begun_by (t + d) what later))
  meta_event_read type said rest what short means at =
      goes_on bytes t p running (record { tick = t + d; meaning = meanings.Event what; running = running; next = q + 2 + 1 + length said }) lt (meta type said rest (meanings.Event what) short means at)
