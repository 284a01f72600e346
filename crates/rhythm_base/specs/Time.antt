-- Tempo, key and signature in force, and elapsed time.
use Rattle.std.specs.Prelude.{ℕ, ℤ, zero, suc, ◌+◌, nat_le, List, filter, Option, Some, None}
use Rattle.std.specs.List.{filter_map}
use Rattle.rhythm_base.specs.declared.event.Event.{Event}
use Rattle.rhythm_base.specs.declared.event.KeyMark.{KeyMark}
use Rattle.rhythm_base.specs.declared.event.Signature.{Signature}
use Rattle.rhythm_base.specs.declared.event.Tempo.{Tempo}
use Rattle.rhythm_base.specs.declared.event.What.{What}
use Rattle.rhythm_base.specs.declared.event.What.TheVariants as what
use Rattle.rhythm_base.specs.Lists.{last_of}

-- the last change at or before a tick
abbrev pub in_force : {X : Type 0} → (X → ℕ) → List X → ℕ → Option X
in_force tick changes t = last_of (filter (λ x. nat_le (tick x) t) changes)

-- microseconds of a quarter, 500,000 where there is no change yet
abbrev pub micros_or : Option Tempo → ℕ
micros_or None = 500000
micros_or (Some t) = t.micros

abbrev pub tempo_at : List Tempo → ℕ → ℕ
tempo_at tempos t = micros_or (in_force (λ x. x.tick) tempos t)

-- elapsed time at a tick: the sum of the tempo in force over all ticks before it, in microseconds over the division
unfoldable pub time : List Tempo → ℕ → ℕ
time tempos zero = 0
time tempos (suc u) = time tempos u + tempo_at tempos u

abbrev pub sf_of : Option KeyMark → Option ℤ
sf_of None = None
sf_of (Some k) = Some k.sf

abbrev pub key_at : List KeyMark → ℕ → Option ℤ
key_at marks t = sf_of (in_force (λ x. x.tick) marks t)

-- ---- the changes among the events, in their order

abbrev pub tempo_in : ℕ → What → Option Tempo
tempo_in tick (what.Tempo micros) = Some (record { tick = tick; micros = micros })
tempo_in tick _ = None

abbrev pub key_in : ℕ → What → Option KeyMark
key_in tick (what.KeySig sf) = Some (record { tick = tick; sf = sf })
key_in tick _ = None

abbrev pub signature_in : ℕ → What → Option Signature
signature_in tick (what.Signature num dd) = Some (record { tick = tick; num = num; dd = dd })
signature_in tick _ = None

abbrev pub tempos_of : List Event → List Tempo
tempos_of events = filter_map (λ e. tempo_in e.tick e.what) events

abbrev pub keys_of : List Event → List KeyMark
keys_of events = filter_map (λ e. key_in e.tick e.what) events

abbrev pub signatures_of : List Event → List Signature
signatures_of events = filter_map (λ e. signature_in e.tick e.what) events
