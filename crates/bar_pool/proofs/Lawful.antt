-- The law of draws holds at the start, and each event keeps it.
use Rattle.std.proofs.Common.{◌≡◌, ◌≢◌, ℕ, zero, suc, ◌+◌, ◌<◌, ◌≤◌, min, nat_lt, ◌==◌, Bool, true, false, List, [], ◌∷◌, ◌++◌, length, get_or, set, All, refl, sym, ap, subst, arith, length-append}
use Rattle.std.specs.Prelude.{if◌then◌else◌, Some, slice_get, sum_by}
use Rattle.std.proofs.lemmas.Bool.Decides.{nat_tests}
use Rattle.std.proofs.lemmas.List.Sums.{sum_by_push}
use Rattle.std.proofs.lemmas.List.Concat.{length-flat_map}
use Rattle.std.proofs.lemmas.List.Elements.{All-push, All-set}
use Rattle.std.proofs.lemmas.Option.{get_or_from_slice_get, slice_get_within}
use Rattle.bar_pool.specs.Draws.{AreLawful, Draws, Event, IsAfter, IsRun, IsDrawSeat, Seat, drawn_by_all, new_seat, seat_less, seat_with, first_draws, occurrences, draw, split, join}
use Rattle.bar_pool.specs.Laws.{DrawsKeepTheirLaw}
use Rattle.bar_pool.proofs.Counting.{below_from, length-each, sum_by-at, sum_by-below, sum_by-most, times-append, times-at, times-cons, times-flat_map}

-- what a fact about each member says of the member at a place
pub All-at : {X : Type 0} (P : X → Type 0) (xs : List X) (i : ℕ) (v : X) → All P xs → slice_get xs i ≡ Some v → P v
All-at P xs i v h e = subst P (get_or_from_slice_get xs i v v e) (h i v (slice_get_within xs i v e))

-- the seat at another place is as it was
set-else : {X : Type 0} (xs : List X) (i j : ℕ) (v w : X) → i ≢ j → slice_get xs j ≡ Some v → slice_get (set xs i w) j ≡ Some v
set-else [] i j v w n e = e
set-else (x ∷ xs) zero zero v w n e = absurd (n refl)
set-else (x ∷ xs) zero (suc j) v w n e = e
set-else (x ∷ xs) (suc i) zero v w n e = e
set-else (x ∷ xs) (suc i) (suc j) v w n e = set-else xs i j v w (λ s. n (ap suc s)) e

times_of : ℕ → Seat → ℕ
times_of x s = occurrences x s.drawn

-- how often a number stands with all seats, after one seat became another
together-set : (x : ℕ) (seats : List Seat) (i : ℕ) (v w : Seat) → slice_get seats i ≡ Some v
    → occurrences x (drawn_by_all (set seats i w)) + occurrences x v.drawn ≡ occurrences x (drawn_by_all seats) + occurrences x w.drawn
together-set x seats i v w e =
    omega (
      arith,
      sum_by-at (λ (s : Seat). occurrences x s.drawn) seats i v w e,
      times-flat_map (λ (s : Seat). s.drawn) x seats,
      times-flat_map (λ (s : Seat). s.drawn) x (set seats i w),
    )

length-set_of : (seats : List Seat) (i : ℕ) (v w : Seat) → slice_get seats i ≡ Some v
    → length (drawn_by_all (set seats i w)) + length v.drawn ≡ length (drawn_by_all seats) + length w.drawn
length-set_of seats i v w e =
    omega (
      arith,
      sum_by-at (λ (s : Seat). length s.drawn) seats i v w e,
      length-flat_map (λ (s : Seat). s.drawn) seats,
      length-flat_map (λ (s : Seat). s.drawn) (set seats i w),
    )

together-push : (x : ℕ) (seats : List Seat) (w : Seat) → occurrences x (drawn_by_all (seats ++ w ∷ [])) ≡ occurrences x (drawn_by_all seats) + occurrences x w.drawn
together-push x seats w =
    omega (
      arith,
      sum_by_push (λ (s : Seat). occurrences x s.drawn) seats w,
      times-flat_map (λ (s : Seat). s.drawn) x seats,
      times-flat_map (λ (s : Seat). s.drawn) x (seats ++ w ∷ []),
    )

length-push_of : (seats : List Seat) (w : Seat) → length (drawn_by_all (seats ++ w ∷ [])) ≡ length (drawn_by_all seats) + length w.drawn
length-push_of seats w =
    omega (
      arith,
      sum_by_push (λ (s : Seat). length s.drawn) seats w,
      length-flat_map (λ (s : Seat). s.drawn) seats,
      length-flat_map (λ (s : Seat). s.drawn) (seats ++ w ∷ []),
    )

-- all seats together have as many numbers as there are below both
pub together-length : (inputs workers : ℕ) (a : Draws) → AreLawful inputs workers a → length (drawn_by_all a.seats) ≡ min a.next inputs
together-length inputs workers a h = length-each (min a.next inputs) (drawn_by_all a.seats) h.once

pasts_below : (seats : List Seat) (i : ℕ) (s : Seat) → All IsDrawSeat seats → slice_get seats i ≡ Some s → s.past < s.share → sum_by (λ (s : Seat). s.past) seats < sum_by (λ (s : Seat). s.share) seats
pasts_below seats i s h e turn = sum_by-below (λ (s : Seat). s.past) (λ (s : Seat). s.share) seats i s (λ k d l. (h k d l).past) e turn

-- where a seat may draw, the next number is below that of the inputs and the workers together
pub next_below : (inputs workers : ℕ) (a : Draws) (i : ℕ) (s : Seat) → AreLawful inputs workers a → slice_get a.seats i ≡ Some s → s.past < s.share → a.next < inputs + workers
next_below inputs workers a i s h e turn = omega (arith, pasts_below a.seats i s h.seats e turn, h.shares, h.next, together-length inputs workers a h)

-- what a seat drew is below the next number
pub drawn_below : (inputs workers : ℕ) (a : Draws) (i : ℕ) (s : Seat) → AreLawful inputs workers a → slice_get a.seats i ≡ Some s → All (λ x. x < a.next) s.drawn
drawn_below inputs workers a i s h e k d within =
    let x : ℕ = get_or s.drawn k d in
    let once = times-at s.drawn k d within in
    let most = sum_by-most (λ (s : Seat). occurrences x s.drawn) a.seats i s e in
    let low = below_from x (min a.next inputs) (omega (arith, once, most, times-flat_map (λ (s : Seat). s.drawn) x a.seats, h.once x)) in
    omega (arith, low)

once_more : (x n inputs : ℕ) → n < inputs → (if nat_lt x (min n inputs) then 1 else 0) + (if n == x then 1 else 0) ≡ (if nat_lt x (min (n + 1) inputs) then 1 else 0)
once_more x n inputs h =
    let a : min n inputs ≡ n = omega arith in
    let b : min (n + 1) inputs ≡ n + 1 = omega arith in
    rw (a, b) (grind (arith, nat_tests))

-- the law after a seat drew the next number, and so became another
drawn_keeps : (inputs workers i : ℕ) (a : Draws) (s w : Seat) → AreLawful inputs workers a → slice_get a.seats i ≡ Some s → w.share ≡ s.share → IsDrawSeat w
    → ((x : ℕ) → occurrences x w.drawn + (if nat_lt x (min a.next inputs) then 1 else 0) ≡ occurrences x s.drawn + (if nat_lt x (min (a.next + 1) inputs) then 1 else 0))
    → length w.drawn + w.past ≡ length s.drawn + s.past + 1
    → AreLawful inputs workers record { next = a.next + 1; seats = set a.seats i w }
drawn_keeps inputs workers i a s w h e share seat once more = record {
  shares = omega (arith, sum_by-at (λ (s : Seat). s.share) a.seats i s w e, h.shares, share);
  seats = All-set IsDrawSeat a.seats i w seat h.seats;
  once = λ x. omega (arith, together-set x a.seats i s w e, h.once x, once x);
  next = omega (arith, length-set_of a.seats i s w e, sum_by-at (λ (s : Seat). s.past) a.seats i s w e, h.next, more);
}

pub draw_keeps : (inputs workers at : ℕ) (a b : Draws) → AreLawful inputs workers a → IsAfter inputs (draw at) a b → AreLawful inputs workers b
draw_keeps inputs workers at a b h (s, e, turn, same) =
    subst (AreLawful inputs workers) (sym same) (go (nat_lt a.next inputs) refl)
  where
    mine : IsDrawSeat s
    mine = All-at IsDrawSeat a.seats at s h.seats e

    go : (t : Bool) → nat_lt a.next inputs ≡ t
        → AreLawful inputs workers record { next = a.next + 1; seats = set a.seats at (if t then record s { drawn = s.drawn ++ a.next ∷ [] } else record s { past = s.past + 1 }) }
    go true d =
        let low : a.next < inputs = grind (arith, nat_tests) in
        let w : Seat = record s { drawn = s.drawn ++ a.next ∷ [] } in
        let seat : IsDrawSeat w = record { past = mine.past; idle = λ z. absurd (omega arith) } in
        drawn_keeps inputs workers at a s w h e refl seat
        (λ x. omega (arith, times-append x s.drawn (a.next ∷ []), times-cons x a.next [], once_more x a.next inputs low))
        (omega (arith, length-append s.drawn (a.next ∷ [])))
    go false d =
        let high : inputs ≤ a.next = grind (arith, nat_tests) in
        let w : Seat = record s { past = s.past + 1 } in
        let seat : IsDrawSeat w = record { past = omega arith; idle = λ z. absurd (omega arith) } in
        let here : min a.next inputs ≡ inputs = omega arith in
        let there : min (a.next + 1) inputs ≡ inputs = omega arith in
        drawn_keeps inputs workers at a s w h e refl seat (λ x. rw (here, there) refl) (omega arith)

pub split_keeps : (inputs workers at part : ℕ) (a b : Draws) → AreLawful inputs workers a → IsAfter inputs (split at part) a b → AreLawful inputs workers b
split_keeps inputs workers at part a b h (s, e, some, room, same) =
    let mine = All-at IsDrawSeat a.seats at s h.seats e in
    let left : Seat = seat_less part s in
    let right : Seat = new_seat part in
    let stays : IsDrawSeat left = record { past = omega arith; idle = λ z. absurd (omega arith) } in
    let comes : IsDrawSeat right = record { past = omega arith; idle = λ z. refl } in
    subst (AreLawful inputs workers) (sym same) record {
      shares = omega (arith, sum_by_push (λ (s : Seat). s.share) (set a.seats at left) right, sum_by-at (λ (s : Seat). s.share) a.seats at s left e, h.shares);
      seats = All-push IsDrawSeat (set a.seats at left) right (All-set IsDrawSeat a.seats at left stays h.seats) comes;
      once = λ x. omega (arith, together-push x (set a.seats at left) right, together-set x a.seats at s left e, h.once x);
      next = omega (
        arith,
        length-push_of (set a.seats at left) right,
        length-set_of a.seats at s left e,
        sum_by_push (λ (s : Seat). s.past) (set a.seats at left) right,
        sum_by-at (λ (s : Seat). s.past) a.seats at s left e,
        h.next,
      );
    }

pub join_keeps : (inputs workers at from : ℕ) (a b : Draws) → AreLawful inputs workers a → IsAfter inputs (join at from) a b → AreLawful inputs workers b
join_keeps inputs workers at from a b h (s, other, e, f, apart, same) =
    let mine = All-at IsDrawSeat a.seats at s h.seats e in
    let theirs = All-at IsDrawSeat a.seats from other h.seats f in
    let both : Seat = seat_with s other in
    let nobody : Seat = new_seat 0 in
    let there = set-else a.seats at from other both apart f in
    let idle : both.share ≡ 0 → both.drawn ≡ [] = λ z.
    let one : s.drawn ≡ [] = mine.idle (omega arith) in
    let two : other.drawn ≡ [] = theirs.idle (omega arith) in
    rw (one, two) refl in
    let whole : IsDrawSeat both = record { past = omega (arith, mine.past, theirs.past); idle = idle } in
    let spent : IsDrawSeat nobody = record { past = omega arith; idle = λ z. refl } in
    let first : List Seat = set a.seats at both in
    subst (AreLawful inputs workers) (sym same) record {
      shares = omega (arith, sum_by-at (λ (s : Seat). s.share) a.seats at s both e, sum_by-at (λ (s : Seat). s.share) first from other nobody there, h.shares);
      seats = All-set IsDrawSeat first from nobody spent (All-set IsDrawSeat a.seats at both whole h.seats);
      once = λ x. omega (arith, times-append x s.drawn other.drawn, together-set x a.seats at s both e, together-set x first from other nobody there, h.once x);
      next = omega (
        arith,
        length-append s.drawn other.drawn,
        length-set_of a.seats at s both e,
        length-set_of first from other nobody there,
        sum_by-at (λ (s : Seat). s.past) a.seats at s both e,
        sum_by-at (λ (s : Seat). s.past) first from other nobody there,
        h.next,
      );
    }

pub event_keeps : (inputs workers : ℕ) (event : Event) (a b : Draws) → AreLawful inputs workers a → IsAfter inputs event a b → AreLawful inputs workers b
event_keeps inputs workers (draw at) a b h t = draw_keeps inputs workers at a b h t
event_keeps inputs workers (split at part) a b h t = split_keeps inputs workers at part a b h t
event_keeps inputs workers (join at from) a b h t = join_keeps inputs workers at from a b h t

pub start_lawful : (inputs workers : ℕ) → AreLawful inputs workers (first_draws workers)
start_lawful inputs workers = record {
  shares = omega arith;
  seats = All-push IsDrawSeat [] (new_seat workers) (λ k d l. absurd (omega arith)) record { past = omega arith; idle = λ z. refl };
  once = λ x. grind (arith, nat_tests);
  next = omega arith;
}

run_keeps : (inputs workers : ℕ) (events : List Event) (a b : Draws) → AreLawful inputs workers a → IsRun inputs events a b → AreLawful inputs workers b
run_keeps inputs workers [] a b h t = subst (AreLawful inputs workers) (sym t) h
run_keeps inputs workers (event ∷ events) a b h (between, t, r) = run_keeps inputs workers events between b (event_keeps inputs workers event a between h t) r

pub draws_keep : DrawsKeepTheirLaw
draws_keep inputs workers events draws r = run_keeps inputs workers events (first_draws workers) draws (start_lawful inputs workers) r
