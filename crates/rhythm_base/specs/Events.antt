-- The events of a file in one list: by tick, at one tick by track, and in a track by place.
use Rattle.std.specs.Prelude.{◌≡◌, ℕ, ◌==◌, List, map, filter}
use Rattle.std.specs.List.{flat_map}
use Rattle.std.specs.List.Sorted.{IsNonDecreasing}
use Rattle.rhythm_base.specs.declared.event.Event.{Event}

abbrev pub at_tick : ℕ → List Event → List Event
at_tick t events = filter (λ e. e.tick == t) events

-- ticks do not fall, and the events of each tick are those of the tracks, track after track
pub record IsMerged (tracks : List (List Event)) (merged : List Event) : Type 0 where
  pub in_order : IsNonDecreasing (map (λ e. e.tick) merged)
  pub same : (t : ℕ) → at_tick t merged ≡ at_tick t (flat_map (λ track. track) tracks)
