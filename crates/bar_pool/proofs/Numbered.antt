-- A seat and its numbered things after one draw more.
use Rattle.std.proofs.Common.{◌≡◌, ℕ, ◌+◌, ◌<◌, nat_lt, Bool, true, false, List, [], ◌∷◌, ◌++◌, length, All, max, refl, sym, ap, ◌∙◌, subst, arith, length-append}
use Rattle.std.specs.Prelude.{if◌then◌else◌, Some, slice_get, IfOk, IsOk, Result, Ok, Err}
use Rattle.std.proofs.lemmas.Bool.Decides.{nat_tests}
use Rattle.std.proofs.lemmas.List.{map-append}
use Rattle.std.proofs.lemmas.List.Elements.{All-append, All-push}
use Rattle.atomic_table.specs.Table.{Me}
use Rattle.bar_pool.specs.Draws.{seat_after}
use Rattle.bar_pool.specs.DrawTable.{seat_of, view_of, view_with}
use Rattle.bar_pool.specs.Workers.{AreBuilt, HasShare, IsNumbered, numbers}
use Rattle.bar_pool.specs.declared.draws.SeatView.{SeatView}
use Rattle.bar_pool.proofs.Counting.{above, above-push}

-- a number below that of the inputs joins the list
took : (v : SeatView) (n : ℕ) → n < v.inputs → view_of v (seat_after v.inputs n (seat_of v)) ≡ record v { drawn = v.drawn ++ n ∷ [] }
took v n low = go (nat_lt n v.inputs) (grind (arith, nat_tests))
  where
    go : (b : Bool) → b ≡ true → view_of v (if b then record (seat_of v) { drawn = v.drawn ++ n ∷ [] } else record (seat_of v) { past = v.past + 1 }) ≡ record v { drawn = v.drawn ++ n ∷ [] }
    go true e = refl
    go false e = absurd (cc)

module _ (me after : Me ℕ SeatView) (n count : ℕ) (drew : after ≡ (view_of me.0 (seat_after me.0.inputs n (seat_of me.0)), me.1)) (has : HasShare me count 1) (low : n < count) where
  pub me_after : after ≡ (record me.0 { drawn = me.0.drawn ++ n ∷ [] }, me.1)
  me_after =
      let bound : n < me.0.inputs = omega (arith, has.inputs) in
      drew ∙ ap (λ (v : SeatView). (v, me.1)) (took me.0 n bound)

  pub share_after : HasShare after count 1
  share_after =
      let P : Me ℕ SeatView → Type 0 = λ m. HasShare m count 1 in
      subst P (sym me_after) record { share = has.share; inputs = has.inputs; slots = has.slots }

  pub drawn_after : after.0.drawn ≡ me.0.drawn ++ n ∷ []
  drawn_after = ap (λ (m : Me ℕ SeatView). m.0.drawn) me_after

  pub past_after : after.0.past ≡ me.0.past
  past_after = ap (λ (m : Me ℕ SeatView). m.0.past) me_after

  pub length_after : length after.0.drawn ≡ length me.0.drawn + 1
  length_after = ap length drawn_after ∙ omega (arith, length-append me.0.drawn (n ∷ []))

  pub above_after : above after.0.drawn ≡ max (above me.0.drawn) (n + 1)
  above_after = ap above drawn_after ∙ above-push me.0.drawn n

  pub numbers_after : {T : Type 0} (built more : List (ℕ × T)) (t : T) → more ≡ built ++ (n, t) ∷ [] → numbers built ≡ me.0.drawn → numbers more ≡ after.0.drawn
  numbers_after built more t e h =
      ap (λ l. numbers l) e ∙ map-append (λ p. p.0) built ((n, t) ∷ []) ∙ ap (λ l. l ++ n ∷ []) h ∙ sym drawn_after

-- the numbered things with one more
pub things_after : {T : Type 0} (Built : ℕ → T → Type 0) (searched : List ℕ) (built more : List (ℕ × T)) (n number : ℕ) (t : T) → more ≡ built ++ (n, t) ∷ []
    → All (IsNumbered Built searched) built → slice_get searched n ≡ Some number → Built number t → All (IsNumbered Built searched) more
things_after Built searched built more n number t e h at of =
    let one : IsNumbered Built searched (n, t) = λ other f.
    let same : number ≡ other = cc in
    subst (λ k. Built k t) same of in
    subst (All (IsNumbered Built searched)) (sym e) (All-push (IsNumbered Built searched) built (n, t) h one)

-- what two seats have built, where one takes over the other
module _ {T : Type 0} (Built : ℕ → T → Type 0) (searched : List ℕ) (first second after : Me ℕ SeatView) (me : after ≡ (view_with first.0 second.0, [])) where
  built : (xs ys zs : List (ℕ × T)) → AreBuilt Built searched first xs → AreBuilt Built searched second ys → zs ≡ xs ++ ys → AreBuilt Built searched after zs
  built xs ys zs a b e = record {
    past = let same = ap (λ (m : Me ℕ SeatView). m.0.past) me in omega (arith, same, a.past);
    numbers = ap (λ l. numbers l) e ∙ map-append (λ p. p.0) xs ys ∙ ap (λ l. l ++ numbers ys) a.numbers ∙ ap (λ l. first.0.drawn ++ l) b.numbers ∙ sym (ap (λ (m : Me ℕ SeatView). m.0.drawn) me);
    things = subst (All (IsNumbered Built searched)) (sym e) (All-append (IsNumbered Built searched) xs ys a.things b.things);
  }

  pub both_built : {V E : Type 0} (items : V → List (ℕ × T)) (r a b : Result V E) → IfOk r (λ v. IfOk a (λ x. IfOk b (λ y. items v ≡ items x ++ items y)))
      → (IsOk r → IsOk a × IsOk b) → IfOk a (λ x. AreBuilt Built searched first (items x)) → IfOk b (λ y. AreBuilt Built searched second (items y))
      → IfOk r (λ v. AreBuilt Built searched after (items v))
  both_built items (Err e) a b all both one two = tt
  both_built items (Ok v) (Ok x) (Ok y) all both one two = built (items x) (items y) (items v) one two all
  both_built items (Ok v) (Ok x) (Err e) all both one two = let h : false ≡ true = (both refl).1 in absurd (cc)
  both_built items (Ok v) (Err e) b all both one two = let h : false ≡ true = (both refl).0 in absurd (cc)
