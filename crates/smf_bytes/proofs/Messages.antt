-- The bytes of a track, message after message.
use Rattle.std.proofs.Common.{◌≡◌, ℕ, zero, suc, ◌-◌, ◌<◌, ◌≤◌, List, [], ◌∷◌, ◌++◌, get_or, length, map, take, refl, ap, ◌∙◌, append_assoc, append-nil, arith}
use Rattle.rhythm_base.specs.declared.event.Event.{Event}
use Rattle.smf_bytes.specs.Message.{message_bytes}
use Rattle.smf_bytes.specs.Quantity.{quantity_bytes}
use Rattle.smf_bytes.specs.Track.{AreTimed, bytes_from, content_bytes, end_of_track_bytes, timed_message}

-- the tick of the last event, or t where there is none
abbrev pub last_tick : ℕ → List Event → ℕ
last_tick t [] = t
last_tick t (e ∷ es) = last_tick e.tick es

pub last_tick_push : (t : ℕ) (es : List Event) (e : Event) → last_tick t (es ++ e ∷ []) ≡ e.tick
last_tick_push t [] e = refl
last_tick_push t (x ∷ es) e = last_tick_push x.tick es e

pub no_bytes : (t : ℕ) → bytes_from t [] ≡ []
unfolding bytes_from
no_bytes t = refl

-- messages after those of events
bytes_after : (t : ℕ) (es : List Event) (more : List (ℕ × List ℕ)) → bytes_from t (map timed_message es ++ more) ≡ bytes_from t (map timed_message es) ++ bytes_from (last_tick t es) more
unfolding bytes_from
bytes_after t [] more = refl
bytes_after t (e ∷ es) more =
    ap (λ (bytes : List ℕ). quantity_bytes (e.tick - t) ++ (message_bytes e.what ++ bytes)) (bytes_after e.tick es more) ∙ simp append_assoc

one_after : (t tick : ℕ) (message : List ℕ) → bytes_from t ((tick, message) ∷ []) ≡ quantity_bytes (tick - t) ++ message
unfolding bytes_from
one_after t tick message = simp append-nil

push_is : (es : List Event) (e : Event) → map timed_message (es ++ e ∷ []) ≡ map timed_message es ++ timed_message e ∷ []
push_is [] e = refl
push_is (x ∷ es) e = ap (λ (ms : List (ℕ × List ℕ)). timed_message x ∷ ms) (push_is es e)

-- one event more
pub content_push : (t : ℕ) (es : List Event) (e : Event)
    → bytes_from t (map timed_message (es ++ e ∷ [])) ≡ bytes_from t (map timed_message es) ++ (quantity_bytes (e.tick - last_tick t es) ++ message_bytes e.what)
content_push t es e =
    ap (bytes_from t) (push_is es e)
    ∙ bytes_after t es (timed_message e ∷ [])
    ∙ ap (λ (bytes : List ℕ). bytes_from t (map timed_message es) ++ bytes) (one_after (last_tick t es) e.tick (message_bytes e.what))

-- the end of the track
pub content_end : (es : List Event) (last : ℕ) → content_bytes es last ≡ bytes_from 0 (map timed_message es) ++ (quantity_bytes (last - last_tick 0 es) ++ end_of_track_bytes)
content_end es last =
    bytes_after 0 es ((last, end_of_track_bytes) ∷ []) ∙ ap (λ (bytes : List ℕ). bytes_from 0 (map timed_message es) ++ bytes) (one_after (last_tick 0 es) last end_of_track_bytes)

-- ---- events in the order of their ticks

pub timed_within : (low : ℕ) (es : List Event) (last : ℕ) → AreTimed low es last → last_tick low es ≤ last
timed_within low [] last h = h
timed_within low (e ∷ es) last h = timed_within e.tick es last h.1

pub timed_next : (low : ℕ) (es : List Event) (last i : ℕ) (d : Event) → AreTimed low es last → i < length es → last_tick low (take i es) ≤ (get_or es i d).tick
timed_next low [] last i d h lt = absurd (omega (arith, lt))
timed_next low (e ∷ es) last zero d h lt = h.0
timed_next low (e ∷ es) last (suc i) d h lt = timed_next e.tick es last i d h.1 (omega (arith, lt))

pub timed_early : (low : ℕ) (es : List Event) (last i : ℕ) (d : Event) → AreTimed low es last → i < length es → (get_or es i d).tick ≤ last
timed_early low [] last i d h lt = absurd (omega (arith, lt))
timed_early low (e ∷ es) last zero d h lt = starts e.tick es last h.1
  where
    starts : (low : ℕ) (es : List Event) (last : ℕ) → AreTimed low es last → low ≤ last
    starts low [] last h = h
    starts low (e ∷ es) last h = let rest = starts e.tick es last h.1 in omega (arith, h.0, rest)
timed_early low (e ∷ es) last (suc i) d h lt = timed_early e.tick es last i d h.1 (omega (arith, lt))
