-- Events whose ticks do not fall.
use Rattle.std.proofs.Common.{map, arith}
use Rattle.std.specs.Prelude.{List}
use Rattle.std.specs.List.Sorted.{IsNonDecreasing, IsNonDecreasingBy}
use Rattle.std.proofs.lemmas.List.{get_or-map, length-map}
use Rattle.rhythm_base.specs.declared.event.Event.{Event}
use Rattle.rhythm_base.specs.declared.event.What.TheVariants.{Tempo}

-- the order of events by tick, as one of their ticks
pub no_fall : (events : List Event) → IsNonDecreasingBy (λ e. e.tick) events → IsNonDecreasing (map (λ e. e.tick) events)
no_fall events h i j d le within =
    let first : Event = record { tick = 0; what = Tempo 1 } in
    let long = length-map events (λ (e : Event). e.tick) in
    omega (arith, long, get_or-map (λ (e : Event). e.tick) events i first d (omega arith), get_or-map (λ (e : Event). e.tick) events j first d (omega arith), h i j first le (omega arith))
