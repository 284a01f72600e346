-- The merged events of tracks are one list.
use Rattle.std.proofs.Common.{◌≡◌, ℕ, suc, ◌<◌, ◌≤◌, ◌==◌, Bool, true, false, inl, inr, List, [], ◌∷◌, map, refl, sym, ap, ◌∙◌, arith}
use Rattle.std.specs.Prelude.{All, cond}
use Rattle.std.specs.List.Sorted.{IsNonDecreasing}
use Rattle.std.proofs.lemmas.Bool.{cases_order}
use Rattle.std.proofs.lemmas.Bool.Decides.{nat_tests}
use Rattle.std.proofs.lemmas.List.{get_or-map, length-map}
use Rattle.rhythm_base.specs.declared.event.Event.{Event}
use Rattle.rhythm_base.specs.Events.{IsMerged, at_tick}
use Rattle.rhythm_base.proofs.OrderedLists.{all_cons, all_head, all_tail}

abbrev ticks : List Event → List ℕ
ticks events = map (λ e. e.tick) events

ticks_after : (e : Event) (events : List Event) → IsNonDecreasing (ticks (e ∷ events)) → All (λ x. e.tick ≤ x.tick) events
ticks_after e events h k d lt =
    omega (arith, h 0 (suc k) d.tick (omega arith) (omega (arith, lt, length-map events (λ (x : Event). x.tick))), get_or-map (λ (x : Event). x.tick) events k d d.tick lt)

ticks_later : (e : Event) (events : List Event) → IsNonDecreasing (ticks (e ∷ events)) → IsNonDecreasing (ticks events)
ticks_later e events h i j d le lt = h (suc i) (suc j) d (omega (arith, le)) (omega (arith, lt))

none_at : (t : ℕ) (events : List Event) → All (λ x. t < x.tick) events → at_tick t events ≡ []
none_at t [] h = refl
none_at t (e ∷ events) h =
    let low : t < e.tick = all_head (λ x. t < x.tick) e events h in
    let out : (e.tick == t) ≡ false = grind (arith, nat_tests, low) in
    rw out (none_at t events (all_tail (λ x. t < x.tick) e events h))

kept_at : (e : Event) (t : ℕ) (events : List Event) → e.tick ≡ t → at_tick t (e ∷ events) ≡ e ∷ at_tick t events
kept_at e t events h = let is : (e.tick == t) ≡ true = grind (arith, nat_tests, h) in rw is refl

-- an event before all of other events is at no tick of theirs
not_before : (x y : Event) (xs ys : List Event) → IsNonDecreasing (ticks (y ∷ ys)) → x.tick < y.tick → at_tick x.tick (x ∷ xs) ≡ at_tick x.tick (y ∷ ys) → ⊥
not_before x y xs ys up less same =
    let after = ticks_after y ys up in
    let none = none_at x.tick (y ∷ ys) (all_cons (λ e. x.tick < e.tick) y ys less (λ k d lt. omega (arith, less, after k d lt))) in
    let wrong : x ∷ at_tick x.tick xs ≡ [] = sym (kept_at x x.tick xs refl) ∙ same ∙ none in
    absurd (cc)

one_tail : (x : Event) (xs ys : List Event) (b : Bool) → cond b (x ∷ xs) xs ≡ cond b (x ∷ ys) ys → xs ≡ ys
one_tail x xs ys true h = cc
one_tail x xs ys false h = h

one_merge : (xs ys : List Event) → IsNonDecreasing (ticks xs) → IsNonDecreasing (ticks ys) → ((t : ℕ) → at_tick t xs ≡ at_tick t ys) → xs ≡ ys
one_merge [] [] p q same = refl
one_merge [] (y ∷ ys) p q same = let wrong : [] ≡ y ∷ at_tick y.tick ys = same y.tick ∙ kept_at y y.tick ys refl in absurd (cc)
one_merge (x ∷ xs) [] p q same = let wrong : x ∷ at_tick x.tick xs ≡ [] = sym (kept_at x x.tick xs refl) ∙ same x.tick in absurd (cc)
one_merge (x ∷ xs) (y ∷ ys) p q same =
    λ i. head i ∷ one_merge xs ys (ticks_later x xs p) (ticks_later y ys q) (λ t. one_tail x (at_tick t xs) (at_tick t ys) (x.tick == t) (same t ∙ ap (λ e. at_tick t (e ∷ ys)) (sym head))) i
  where
    head : x ≡ y
    head = elim (cases_order x.tick y.tick) [
      | inl level ↦
          let lists : x ∷ at_tick x.tick xs ≡ y ∷ at_tick x.tick ys = sym (kept_at x x.tick xs refl) ∙ same x.tick ∙ kept_at y x.tick ys (sym level) in
          cc
      | inr other ↦ elim other [
        | inl less ↦ absurd (not_before x y xs ys q less (same x.tick))
        | inr more ↦ absurd (not_before y x ys xs p more (sym (same y.tick)))
      ]
    ]

pub one_merged : (tracks : List (List Event)) (xs ys : List Event) → IsMerged tracks xs → IsMerged tracks ys → xs ≡ ys
one_merged tracks xs ys h k = one_merge xs ys h.in_order k.in_order (λ t. h.same t ∙ sym (k.same t))
