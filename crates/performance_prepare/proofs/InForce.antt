-- What is in force at tick 0, change by change.
use Rattle.std.proofs.Common.{◌≡◌, ℕ, ◌+◌, ◌<◌, leb, Bool, true, false, cond, List, [], ◌∷◌, ◌++◌, length, take, get_or, refl, ap, ◌∙◌, arith}
use Rattle.std.specs.Prelude.{filter, Some}
use Rattle.std.proofs.lemmas.List.{append-nil, take_more}
use Rattle.std.proofs.lemmas.List.Elements.{filter-append}
use Rattle.std.proofs.lemmas.Bool.Decides.{nat_tests}
use Rattle.rhythm_base.specs.declared.event.Signature.{Signature}
use Rattle.rhythm_base.specs.declared.event.Tempo.{Tempo}
use Rattle.rhythm_base.specs.Bars.{signature_at}
use Rattle.rhythm_base.specs.Lists.{last_of}
use Rattle.rhythm_base.specs.Time.{in_force, tempo_at}
use Rattle.tempo_map.proofs.BarByBar.{last_snoc}

module _ {X : Type 0} (tick : X → ℕ) (t : ℕ) where
  -- one more change is in force where it is not later
  force_snoc : (xs : List X) (x : X) → in_force tick (xs ++ x ∷ []) t ≡ cond (leb (tick x) t) (Some x) (in_force tick xs t)
  force_snoc xs x = ap last_of (filter-append (λ y. leb (tick y) t) xs (x ∷ [])) ∙ by (leb (tick x) t)
    where
      by : (b : Bool) → last_of (filter (λ y. leb (tick y) t) xs ++ cond b (x ∷ []) []) ≡ cond b (Some x) (in_force tick xs t)
      by true = last_snoc (filter (λ y. leb (tick y) t) xs) x
      by false = ap last_of (append-nil (filter (λ y. leb (tick y) t) xs))

  pub force_more : (xs : List X) (k : ℕ) (d : X) → k < length xs
      → in_force tick (take (k + 1) xs) t ≡ cond (leb (tick (get_or xs k d)) t) (Some (get_or xs k d)) (in_force tick (take k xs) t)
  force_more xs k d within = ap (λ l. in_force tick l t) (take_more xs k d within) ∙ force_snoc (take k xs) (get_or xs k d)

first_tick : (n : ℕ) → n ≡ 0 → leb n 0 ≡ true
first_tick n h = grind (arith, nat_tests)

later_tick : (n : ℕ) → (n ≡ 0 → ⊥) → leb n 0 ≡ false
later_tick n h = grind (arith, nat_tests)

module _ (xs : List Signature) (k : ℕ) (d : Signature) (within : k < length xs) where
  pub signature_here : (get_or xs k d).tick ≡ 0 → signature_at (take (k + 1) xs) 0 ≡ ((get_or xs k d).num, (get_or xs k d).dd)
  signature_here is = rw (force_more (λ s. s.tick) 0 xs k d within) (rw (first_tick (get_or xs k d).tick is) refl)

  pub signature_before : ((get_or xs k d).tick ≡ 0 → ⊥) → signature_at (take (k + 1) xs) 0 ≡ signature_at (take k xs) 0
  signature_before other = rw (force_more (λ s. s.tick) 0 xs k d within) (rw (later_tick (get_or xs k d).tick other) refl)

module _ (xs : List Tempo) (k : ℕ) (d : Tempo) (within : k < length xs) where
  pub tempo_here : (get_or xs k d).tick ≡ 0 → tempo_at (take (k + 1) xs) 0 ≡ (get_or xs k d).micros
  tempo_here is = rw (force_more (λ s. s.tick) 0 xs k d within) (rw (first_tick (get_or xs k d).tick is) refl)

  pub tempo_before : ((get_or xs k d).tick ≡ 0 → ⊥) → tempo_at (take (k + 1) xs) 0 ≡ tempo_at (take k xs) 0
  tempo_before other = rw (force_more (λ s. s.tick) 0 xs k d within) (rw (later_tick (get_or xs k d).tick other) refl)
