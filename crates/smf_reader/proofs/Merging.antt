-- A stable sort by ticks merges tracks.
use Rattle.std.proofs.Common.{◌≡◌, ℕ, ◌==◌, List, map, sym, ap, ◌∙◌, arith}
use Rattle.std.specs.List.{flat_map}
use Rattle.std.specs.Ordering.{is_lt, nat_cmp}
use Rattle.std.specs.List.Sorted.{ties, IsStableByKey, IsNonDecreasingBy}
use Rattle.std.proofs.lemmas.List.Folds.{flat_map-map}
use Rattle.std.proofs.lemmas.List.Elements.{filter_agree}
use Rattle.std.proofs.lemmas.Bool.Decides.{nat_tests}
use Rattle.rhythm_base.proofs.EventTicks.{no_fall}
use Rattle.rhythm_base.specs.declared.event.Event.{Event}
use Rattle.rhythm_base.specs.declared.event.What.TheVariants.{Tempo}
use Rattle.rhythm_base.specs.Events.{at_tick, IsMerged}
use Rattle.smf_reader.specs.Played.{Track}

-- an event at a tick
abbrev some_event : ℕ → Event
some_event t = record { tick = t; what = Tempo 1 }

-- the events that tie with one at a tick are those at the tick
tie : (t : ℕ) (e : Event) → ties (λ x y. is_lt (nat_cmp x.tick y.tick)) (some_event t) e ≡ (e.tick == t)
tie t e = grind (arith, nat_tests)

pub are_merged : (tracks : List Track) (events sorted : List Event) → events ≡ flat_map (λ t. t.events) tracks → IsNonDecreasingBy (λ e. e.tick) sorted → IsStableByKey (λ e. e.tick) nat_cmp events sorted
    → IsMerged (map (λ t. t.events) tracks) sorted
are_merged tracks events sorted all rises stable = record {
  in_order = no_fall sorted rises;
  same = λ t.
      sym (filter_agree _ _ (tie t) sorted)
      ∙ stable (some_event t)
      ∙ filter_agree _ _ (tie t) events
      ∙ ap (at_tick t) (all ∙ sym (flat_map-map (λ (es : List Event). es) (λ (p : Track). p.events) tracks));
}
