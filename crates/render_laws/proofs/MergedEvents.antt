-- The events of tracks have a merged list.
use Rattle.std.proofs.Common.{◌≡◌, ◌∙◌, ℕ, ◌<◌, ◌≤◌, ◌==◌, Bool, true, false, inl, inr, List, [], ◌∷◌, map, refl, ap, arith}
use Rattle.std.specs.Prelude.{cond}
use Rattle.std.specs.List.{flat_map}
use Rattle.std.proofs.lemmas.Bool.{cases_lt}
use Rattle.std.proofs.lemmas.Bool.Decides.{nat_tests}
use Rattle.performance_load.proofs.EventLemmas.{Up, up_to}
use Rattle.rhythm_base.specs.declared.event.Event.{Event}
use Rattle.rhythm_base.specs.Events.{IsMerged, at_tick}

abbrev ticks : List Event → List ℕ
ticks events = map (λ e. e.tick) events

-- by rising ticks, the first at `low` or later, with the same events at each tick
record AreByTick (low : ℕ) (events list : List Event) : Type 0 where
  order : Up low (ticks list)
  same : (t : ℕ) → at_tick t list ≡ at_tick t events

-- two events of different ticks change places
changed : (x e : Event) (xs : List Event) (t : ℕ) → x.tick < e.tick → at_tick t (x ∷ e ∷ xs) ≡ at_tick t (e ∷ x ∷ xs)
changed x e xs t less = go (x.tick == t) (e.tick == t) refl refl
  where
    own : List Event
    own = at_tick t xs

    go : (a b : Bool) → (x.tick == t) ≡ a → (e.tick == t) ≡ b → cond a (x ∷ cond b (e ∷ own) own) (cond b (e ∷ own) own) ≡ cond b (e ∷ cond a (x ∷ own) own) (cond a (x ∷ own) own)
    go true true h k = absurd (grind (arith, nat_tests, less, h, k))
    go true false h k = refl
    go false true h k = refl
    go false false h k = refl

-- an event is put before the first that is no earlier
put : (low : ℕ) (e : Event) (xs : List Event) → low ≤ e.tick → Up low (ticks xs) → (list : List Event) × AreByTick low (e ∷ xs) list
put low e [] le up = (e ∷ [], record { order = (le, tt); same = λ t. refl })
put low e (x ∷ xs) le up = elim (cases_lt x.tick e.tick) [
  | inl less ↦
      let rest = put x.tick e xs (omega (arith, less)) up.1 in (
        x ∷ rest.0,
        record {
          order = (up.0, rest.1.order);
          same = λ t. ap (λ l. cond (x.tick == t) (x ∷ l) l) (rest.1.same t) ∙ changed x e xs t less;
        },
      )
  | inr few ↦ (e ∷ x ∷ xs, record { order = (le, (few, up.1)); same = λ t. refl })
]

by_tick : (events : List Event) → (list : List Event) × AreByTick 0 events list
by_tick [] = ([], record { order = tt; same = λ t. refl })
by_tick (e ∷ events) =
    let rest = by_tick events in
    let whole = put 0 e rest.0 (omega arith) rest.1.order in (
      whole.0,
      record {
        order = whole.1.order;
        same = λ t. whole.1.same t ∙ ap (λ l. cond (e.tick == t) (e ∷ l) l) (rest.1.same t);
      },
    )

pub some_merged : (tracks : List (List Event)) → (events : List Event) × IsMerged tracks events
some_merged tracks =
    let list = by_tick (flat_map (λ t. t) tracks) in
    (list.0, record { in_order = up_to 0 (ticks list.0) list.1.order; same = list.1.same })
