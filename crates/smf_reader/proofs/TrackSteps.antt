-- The events of a track, read one after another.
use Rattle.std.proofs.Common.{◌≡◌, ℕ, zero, suc, ◌+◌, ◌<◌, ◌≤◌, true, false, leb, List, [], ◌∷◌, ◌++◌, length, Option, None, Result, Ok, Err, refl, sym, ap, ◌∙◌, append_assoc, append-nil, arith}
use Rattle.rhythm_base.specs.declared.event.Event.{Event}
use Rattle.rhythm_base.specs.declared.event.What.{What}
use Rattle.smf_reader.specs.declared.fault.SmfFault.{SmfFault}
use Rattle.smf_reader.specs.declared.event.Step.{Step}
use Rattle.smf_reader.specs.declared.meaning.Meaning.{Meaning}
use Rattle.smf_reader.specs.declared.meaning.Meaning.TheVariants as meanings
use Rattle.smf_reader.specs.Outcome.{◌>>=◌}
use Rattle.smf_reader.specs.Played.{Track}
use Rattle.smf_reader.specs.Event.{event}
use Rattle.smf_reader.specs.Track.{silence, followed, begun_by, events}

-- the events in front of a track
abbrev pub after : List Event → Track → Track
after front played = record { events = front ++ played.events; last = played.last }

-- what is read, with the events in front
abbrev pub with_front : List Event → Result Track SmfFault → Result Track SmfFault
with_front front outcome = outcome >>= λ played. Ok (after front played)

-- with these events in front, the track comes to the outcome by the events from this place on, which the fuel is enough for
pub record ComesTo (bytes : List ℕ) (front : List Event) (tick : ℕ) (running : Option ℕ) (p : ℕ) (outcome : Result Track SmfFault) : Type 0 where
  pub fuel : ℕ
  pub enough : length bytes ≤ p + fuel
  pub whole : with_front front (events fuel bytes tick running p) ≡ outcome

-- no event after the bytes
pub at_end : (n : ℕ) (bytes : List ℕ) (tick : ℕ) (running : Option ℕ) (p : ℕ) → length bytes ≤ p → events n bytes tick running p ≡ Ok (silence tick)
unfolding events
at_end zero bytes tick running p le = refl
at_end (suc n) bytes tick running p le = let e : leb (length bytes) p ≡ true = grind arith in rw e refl

-- an event before the end
one_more : (n : ℕ) (bytes : List ℕ) (tick : ℕ) (running : Option ℕ) (p : ℕ) → p < length bytes
    → events (suc n) bytes tick running p ≡ (event bytes tick running p >>= λ step. followed step.meaning step.tick (events n bytes step.tick step.running step.next))
unfolding events
one_more n bytes tick running p lt = let e : leb (length bytes) p ≡ false = grind arith in rw e refl

-- what is read after an event, by the fuel that is left
record Follows (bytes : List ℕ) (front : List Event) (p : ℕ) (step : Step) (outcome : Result Track SmfFault) : Type 0 where
  pub fuel : ℕ
  pub enough : length bytes ≤ suc (p + fuel)
  pub whole : with_front front (followed step.meaning step.tick (events fuel bytes step.tick step.running step.next)) ≡ outcome

one_step : (n : ℕ) (bytes : List ℕ) (front : List Event) (tick : ℕ) (running : Option ℕ) (p : ℕ) (step : Step) (outcome : Result Track SmfFault) → p < length bytes → length bytes ≤ p + n
    → event bytes tick running p ≡ Ok step → with_front front (events n bytes tick running p) ≡ outcome → Follows bytes front p step outcome
one_step zero bytes front tick running p step outcome lt enough read so_far = absurd (omega arith)
one_step (suc n) bytes front tick running p step outcome lt enough read so_far =
    let opened : events (suc n) bytes tick running p ≡ followed step.meaning step.tick (events n bytes step.tick step.running step.next) = rw (one_more n bytes tick running p lt, read) refl in
    record { fuel = n; enough = omega arith; whole = ap (with_front front) (sym opened) ∙ so_far }

regroup : (front : List Event) (e : Event) (read : Result Track SmfFault) → with_front front (read >>= λ later. Ok (begun_by e.tick e.what later)) ≡ with_front (front ++ e ∷ []) read
regroup front e (Ok later) = ap (λ (es : List Event). Ok (record { events = es; last = later.last })) (simp append_assoc)
regroup front e (Err fault) = refl

-- the track begins
pub starts : (bytes : List ℕ) (p : ℕ) (outcome : Result Track SmfFault) → events (length bytes) bytes 0 None p ≡ outcome → ComesTo bytes [] 0 None p outcome
starts bytes p outcome h = record { fuel = length bytes; enough = omega arith; whole = go (events (length bytes) bytes 0 None p) h } where
  go : (read : Result Track SmfFault) → read ≡ outcome → with_front [] read ≡ outcome
  go (Ok played) e = e
  go (Err fault) e = e

-- the track ends where the bytes do
pub is_done : (bytes : List ℕ) (front : List Event) (tick : ℕ) (running : Option ℕ) (p : ℕ) (outcome : Result Track SmfFault) → length bytes ≤ p → ComesTo bytes front tick running p outcome
    → outcome ≡ Ok (record { events = front; last = tick })
is_done bytes front tick running p outcome le so_far =
    let same : with_front front (events so_far.fuel bytes tick running p) ≡ Ok (record { events = front; last = tick }) = rw (at_end so_far.fuel bytes tick running p le) (ap (λ (es : List Event). Ok (record { events = es; last = tick })) (append-nil front)) in
    sym so_far.whole ∙ same

-- a fault of an event is the track's
pub fails : (bytes : List ℕ) (front : List Event) (tick : ℕ) (running : Option ℕ) (p : ℕ) (fault : SmfFault) (outcome : Result Track SmfFault) → p < length bytes → event bytes tick running p ≡ Err fault
    → ComesTo bytes front tick running p outcome → outcome ≡ Err fault
fails bytes front tick running p fault outcome lt read so_far = go so_far.fuel so_far.enough so_far.whole where
  go : (n : ℕ) → length bytes ≤ p + n → with_front front (events n bytes tick running p) ≡ outcome → outcome ≡ Err fault
  go zero enough whole = absurd (omega arith)
  go (suc n) enough whole =
      let same : with_front front (events (suc n) bytes tick running p) ≡ Err fault = rw (one_more n bytes tick running p lt, read) refl in
      sym whole ∙ same

-- an event goes to those in front
pub goes_on : (bytes : List ℕ) (front longer : List Event) (tick : ℕ) (running : Option ℕ) (p : ℕ) (step : Step) (what : What) (outcome : Result Track SmfFault) → p < length bytes → p < step.next
    → event bytes tick running p ≡ Ok step → step.meaning ≡ meanings.Event what → longer ≡ front ++ record { tick = step.tick; what = what } ∷ []
    → ComesTo bytes front tick running p outcome → ComesTo bytes longer step.tick step.running step.next outcome
goes_on bytes front longer tick running p step what outcome lt later read says grown so_far =
    let f = one_step so_far.fuel bytes front tick running p step outcome lt so_far.enough read so_far.whole in
    let rest = events f.fuel bytes step.tick step.running step.next in
    let e : Event = record { tick = step.tick; what = what } in
    record {
      fuel = f.fuel;
      enough = omega (arith, f.enough);
      whole = ap (λ (es : List Event). with_front es rest) grown ∙ sym (regroup front e rest) ∙ ap (λ (m : Meaning). with_front front (followed m step.tick rest)) (sym says) ∙ f.whole;
    }

-- an event is skipped
pub skips : (bytes : List ℕ) (front : List Event) (tick : ℕ) (running : Option ℕ) (p : ℕ) (step : Step) (outcome : Result Track SmfFault) → p < length bytes → p < step.next
    → event bytes tick running p ≡ Ok step → step.meaning ≡ meanings.Skipped → ComesTo bytes front tick running p outcome → ComesTo bytes front step.tick step.running step.next outcome
skips bytes front tick running p step outcome lt later read says so_far =
    let f = one_step so_far.fuel bytes front tick running p step outcome lt so_far.enough read so_far.whole in
    let rest = events f.fuel bytes step.tick step.running step.next in
    record {
      fuel = f.fuel;
      enough = omega (arith, f.enough);
      whole = ap (λ (m : Meaning). with_front front (followed m step.tick rest)) (sym says) ∙ f.whole;
    }

-- the track ends with an end of track
pub ends : (bytes : List ℕ) (front : List Event) (tick : ℕ) (running : Option ℕ) (p : ℕ) (step : Step) (outcome : Result Track SmfFault) → p < length bytes
    → event bytes tick running p ≡ Ok step → step.meaning ≡ meanings.EndOfTrack → ComesTo bytes front tick running p outcome → outcome ≡ Ok (record { events = front; last = step.tick })
ends bytes front tick running p step outcome lt read says so_far =
    let f = one_step so_far.fuel bytes front tick running p step outcome lt so_far.enough read so_far.whole in
    let rest = events f.fuel bytes step.tick step.running step.next in
    let over : with_front front (Ok (silence step.tick)) ≡ Ok (record { events = front; last = step.tick }) = ap (λ (es : List Event). Ok (record { events = es; last = step.tick })) (append-nil front) in
    sym f.whole ∙ ap (λ (m : Meaning). with_front front (followed m step.tick rest)) says ∙ over
