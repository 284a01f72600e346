-- What the seat that took over all others has, at the close of the table.
use Rattle.std.proofs.Common.{◌≡◌, ℕ, zero, suc, ◌<◌, ◌≤◌, min, List, [], ◌∷◌, length, All, refl, sym, ap, ◌∙◌, subst, arith}
use Rattle.std.specs.Prelude.{Some, slice_get, sum_by, IfOk, Result, Ok, Err}
use Rattle.std.proofs.lemmas.List.Sums.{sum_by-cons}
use Rattle.std.proofs.lemmas.List.Concat.{length-flat_map}
use Rattle.std.proofs.lemmas.List.Elements.{All-head, All-tail}
use Rattle.std.proofs.lemmas.Option.{slice_get_within}
use Rattle.atomic_table.specs.Table.{Final, Me, Seen, State}
use Rattle.bar_pool.specs.Draws.{AreLawful, Draws, HasEachBelow, Seat, drawn_by_all, occurrences}
use Rattle.bar_pool.specs.DrawTable.{IsDrawTable, draws_of, seat_of}
use Rattle.bar_pool.specs.Workers.{HasShare, IsNumbered, numbers}
use Rattle.bar_pool.specs.Places.{StandIn}
use Rattle.bar_pool.specs.declared.draws.DrawCounts.{DrawCounts}
use Rattle.bar_pool.specs.declared.draws.SeatView.{SeatView}
use Rattle.bar_pool.proofs.Counting.{below_one, sum_by-most, times-flat_map}
use Rattle.bar_pool.proofs.EachLemmas.{Each-from}
use Rattle.bar_pool.proofs.Placed.{place_of}
use Rattle.bar_pool.proofs.Lawful.{All-at, together-length}
use Rattle.bar_pool.proofs.TableKeeps.{seat_at}
use Rattle.rhythm_base.specs.Lists.{Each}

-- where the sum of shares is that of one seat, the others have none
none_left : (f : Seat → ℕ) (xs : List Seat) → All (λ s. s.share ≡ 0 → f s ≡ 0) xs → sum_by (λ s. s.share) xs ≡ 0 → sum_by f xs ≡ 0
none_left f [] h none = refl
none_left f (x ∷ xs) h none =
    let P : Seat → Type 0 = λ s. s.share ≡ 0 → f s ≡ 0 in
    let shares = sum_by-cons (λ (s : Seat). s.share) x xs in
    omega (arith, All-head P x xs h (omega (arith, shares)), none_left f xs (All-tail P x xs h) (omega (arith, shares)), sum_by-cons f x xs)

-- whoever has the whole share has all that there is
alone : (f : Seat → ℕ) (xs : List Seat) (i : ℕ) (s : Seat) → All (λ s. s.share ≡ 0 → f s ≡ 0) xs → slice_get xs i ≡ Some s → sum_by (λ s. s.share) xs ≡ s.share → sum_by f xs ≡ f s
alone f [] i s h e whole = absurd (cc)
alone f (x ∷ xs) zero s h e whole =
    let same : x ≡ s = cc in
    let P : Seat → Type 0 = λ s. s.share ≡ 0 → f s ≡ 0 in
    let share : x.share ≡ s.share = ap (λ (s : Seat). s.share) same in
    let value : f x ≡ f s = ap f same in
    omega (arith, value, none_left f xs (All-tail P x xs h) (omega (arith, share, whole, sum_by-cons (λ (s : Seat). s.share) x xs)), sum_by-cons f x xs)
alone f (x ∷ xs) (suc i) s h e whole =
    let P : Seat → Type 0 = λ s. s.share ≡ 0 → f s ≡ 0 in
    let shares = sum_by-cons (λ (s : Seat). s.share) x xs in
    let most = sum_by-most (λ (s : Seat). s.share) xs i s e in
    omega (arith, All-head P x xs h (omega (arith, shares, most, whole)), alone f xs i s (All-tail P x xs h) e (omega (arith, shares, most, whole)), sum_by-cons f x xs)

-- the seat with the whole share, which drew past the inputs, has each number below them once
pub closing : (inputs workers : ℕ) (d : Draws) (i : ℕ) (s : Seat) → AreLawful inputs workers d → slice_get d.seats i ≡ Some s → s.share ≡ workers → 0 < s.past → HasEachBelow inputs s.drawn
closing inputs workers d i s h e whole past x =
    let idle : All (λ s. s.share ≡ 0 → occurrences x s.drawn ≡ 0) d.seats = λ k u l z. rw ((h.seats k u l).idle z) refl in
    let all = alone (λ (s : Seat). occurrences x s.drawn) d.seats i s idle e (omega (arith, h.shares)) in
    let pasts = sum_by-most (λ (s : Seat). s.past) d.seats i s e in
    let over : min d.next inputs ≡ inputs = omega (arith, pasts, h.next, together-length inputs workers d h) in
    let each : HasEachBelow inputs (drawn_by_all d.seats) = subst (λ n. HasEachBelow n (drawn_by_all d.seats)) over h.once in
    sym all ∙ sym (times-flat_map (λ (s : Seat). s.drawn) x d.seats) ∙ each x

-- no seat has more numbers than there are inputs
few_drawn : (inputs workers : ℕ) (d : Draws) (i : ℕ) (s : Seat) → AreLawful inputs workers d → slice_get d.seats i ≡ Some s → length s.drawn ≤ inputs
few_drawn inputs workers d i s h e =
    omega (
      arith,
      sum_by-most (λ (s : Seat). length s.drawn) d.seats i s e,
      length-flat_map (λ (s : Seat). s.drawn) d.seats,
      together-length inputs workers d h,
    )

module _ (inputs workers : ℕ) (key : DrawCounts) (words slots : List ℕ) (id : ℕ) (me : Me ℕ SeatView) (same : key ≡ record { inputs = inputs; workers = workers })
    (final : Final (Seen (λ (s : State ℕ SeatView). IsDrawTable key s.words s.views) id me.0) words slots) where
  abbrev state : State ℕ SeatView
  state = final.0

  lawful : AreLawful inputs workers (draws_of state.words state.views)
  lawful = subst (λ (c : DrawCounts). AreLawful c.inputs c.workers (draws_of state.words state.views)) same final.1.0.lawful

  pub closed : HasShare me inputs workers → 0 < me.0.past → HasEachBelow inputs me.0.drawn
  closed has past = closing inputs workers (draws_of state.words state.views) id (seat_of me.0) lawful (seat_at state.views id me.0 final.1.1) has.share past

  pub closed_few : length me.0.drawn ≤ inputs
  closed_few = few_drawn inputs workers (draws_of state.words state.views) id (seat_of me.0) lawful (seat_at state.views id me.0 final.1.1)

-- the things in their places
pub things_of : {T : Type 0} (Built : ℕ → T → Type 0) (searched : List ℕ) (numbered : List (ℕ × T)) (things : List T)
    → HasEachBelow (length searched) (numbers numbered) → All (IsNumbered Built searched) numbered → length things ≡ length searched → StandIn numbered things
    → Each Built searched things
things_of {T} Built searched numbered things once of size stand = Each-from Built searched things size at
  where
    at : (k number : ℕ) (thing : T) → slice_get searched k ≡ Some number → slice_get things k ≡ Some thing → Built number thing
    at k number thing e f =
        let low = slice_get_within searched k number e in
        let there = place_of numbered k (omega (arith, once k, below_one k (length searched) low)) in
        let p : ℕ × T = there.1 in
        let same : p.0 ≡ k = there.3 in
        let stands : slice_get things p.0 ≡ Some p.1 = stand there.0 p there.2 in
        let here : slice_get things k ≡ Some p.1 = subst (λ m. slice_get things m ≡ Some p.1) same stands in
        let one : p.1 ≡ thing = cc in
        let is : Built number p.1
        = All-at (IsNumbered Built searched) numbered there.0 p of there.2 number (subst (λ m. slice_get searched m ≡ Some number) (sym same) e) in
        subst (Built number) one is

-- what two facts of an `Ok` show
pub with_both : {A E : Type 0} (r : Result A E) (P Q R : A → Type 0) → ((x : A) → P x → Q x → R x) → IfOk r P → IfOk r Q → IfOk r R
with_both (Ok x) P Q R f p q = f x p q
with_both (Err e) P Q R f p q = q
