-- Each step at the table is an event of draws, and so keeps the table's rule.
use Rattle.std.proofs.Common.{◌≡◌, ◌≢◌, ⊎_elim, ℕ, zero, suc, ◌+◌, ◌/◌, ◌%◌, ◌<◌, ◌≤◌, ◌^◌, nat_lt, Bool, true, false, List, [], ◌∷◌, ◌++◌, length, map, set, refl, sym, ap, ◌∙◌, arith}
use Rattle.std.specs.Prelude.{if◌then◌else◌, Some, slice_get, slice_index}
use mathlib.Core.Option.{some, some-ne-none, some-injective}
use lib.ListN.{get_elem?}
use Rattle.atomic_table.specs.Table.{Allows, Joins, Me, Splits, State, Step, keeps}
use Rattle.atomic_table.proofs.Lists.{at_set}
use Rattle.std.proofs.lemmas.List.{map-append}
use Rattle.std.proofs.lemmas.List.Elements.{All-push, All-set}
use Rattle.bar_pool.specs.Draws.{Draws, IsAfter, Seat, draw, join, new_seat, seat_after, split}
use Rattle.bar_pool.specs.DrawTable.{HasCounts, IsDrawTable, IsDrawn, draws_of, first_view, given_half, kept_half, seat_of, spent_view, view_of, view_with}
use Rattle.bar_pool.specs.declared.draws.DrawCounts.{DrawCounts}
use Rattle.bar_pool.specs.declared.draws.SeatView.{SeatView}
use Rattle.bar_pool.proofs.Lawful.{All-at, draw_keeps, drawn_below, join_keeps, next_below, split_keeps, start_lawful}

-- the two ways to read a list
from_elem : {X : Type 0} (xs : List X) (i : ℕ) (v : X) → get_elem? xs i ≡ some v → slice_get xs i ≡ Some v
from_elem [] i v e = absurd (some-ne-none v (sym e))
from_elem (x ∷ xs) zero v e = ap (λ u. Some u) (some-injective x v e)
from_elem (x ∷ xs) (suc i) v e = from_elem xs i v e

slice_get-map : {X Y : Type 0} (f : X → Y) (xs : List X) (i : ℕ) (v : X) → slice_get xs i ≡ Some v → slice_get (map f xs) i ≡ Some (f v)
slice_get-map f [] i v e = absurd (cc)
slice_get-map f (x ∷ xs) zero v e = let same : x ≡ v = cc in ap (λ u. Some (f u)) same
slice_get-map f (x ∷ xs) (suc i) v e = slice_get-map f xs i v e

map-set : {X Y : Type 0} (f : X → Y) (xs : List X) (i : ℕ) (v : X) → map f (set xs i v) ≡ set (map f xs) i (f v)
map-set f [] i v = refl
map-set f (x ∷ xs) zero v = refl
map-set f (x ∷ xs) (suc i) v = ap (λ ys. f x ∷ ys) (map-set f xs i v)

word-set : (words : List ℕ) (n : ℕ) → length words ≡ 1 → slice_index (set words 0 n) 0 ≡ n
word-set [] n h = absurd (omega arith)
word-set (w ∷ ws) n h = refl

words-set : (words : List ℕ) (n : ℕ) → length words ≡ 1 → length (set words 0 n) ≡ 1
words-set [] n h = absurd (omega arith)
words-set (w ∷ ws) n h = h

pub seat_at : (views : List SeatView) (id : ℕ) (v : SeatView) → get_elem? views id ≡ some v → slice_get (map seat_of views) id ≡ Some (seat_of v)
seat_at views id v e = slice_get-map seat_of views id v (from_elem views id v e)

-- what a seat with a share knows
knowing : (c : DrawCounts) (words : List ℕ) (views : List SeatView) (id : ℕ) (v : SeatView) → IsDrawTable c words views → get_elem? views id ≡ some v → HasCounts c v
knowing c words views id v h e = All-at (HasCounts c) views id v h.counts (from_elem views id v e)

-- the table after a draw
drawn_table : (c : DrawCounts) (words : List ℕ) (views : List SeatView) (id : ℕ) (v : SeatView) → IsDrawTable c words views → get_elem? views id ≡ some v → v.past < v.share
    → IsDrawTable c (set words 0 (slice_index words 0 + 1)) (set views id (view_of v (seat_after v.inputs (slice_index words 0) (seat_of v))))
drawn_table c words views id v h e turn =
    let n : ℕ = slice_index words 0 in
    let know = knowing c words views id v h e in
    let same : v.inputs ≡ c.inputs = (know (omega arith)).0 in
    let w : SeatView = view_of v (seat_after v.inputs n (seat_of v)) in
    let share : w.share ≡ v.share = share_after (nat_lt n v.inputs) v n in
    let seats : map seat_of (set views id w) ≡ set (map seat_of views) id (seat_after c.inputs n (seat_of v))
    = map-set seat_of views id w ∙ ap (λ k. set (map seat_of views) id (seat_after k n (seat_of v))) same in
    let next : slice_index (set words 0 (n + 1)) 0 ≡ n + 1 = word-set words (n + 1) h.word in
    let after : IsAfter c.inputs (draw id) (draws_of words views) (draws_of (set words 0 (n + 1)) (set views id w))
    = (seat_of v, seat_at views id v e, turn, both next seats) in
    record {
      word = words-set words (n + 1) h.word;
      lawful = draw_keeps c.inputs c.workers id (draws_of words views) (draws_of (set words 0 (n + 1)) (set views id w)) h.lawful after;
      counts = All-set (HasCounts c) views id w (λ z. know (omega (arith, share))) h.counts;
      few = h.few;
    }
  where
    share_after : (b : Bool) (v : SeatView) (n : ℕ) → (view_of v (if b then record (seat_of v) { drawn = v.drawn ++ n ∷ [] } else record (seat_of v) { past = v.past + 1 })).share ≡ v.share
    share_after true v n = refl
    share_after false v n = refl

    both : {a b : ℕ} {xs ys : List Seat} → a ≡ b → xs ≡ ys → ◌≡◌ {A = Draws} record { next = a; seats = xs } record { next = b; seats = ys }
    both e f = cc

pub draw_allowed : (c : DrawCounts) (slots id : ℕ) (me : Me ℕ SeatView) (t : Step ℕ) → me.0.past < me.0.share
    → Allows (λ s. IsDrawTable c s.words s.views) slots id me 0 (λ n. (n + 1) % 2 ^ 64) (IsDrawn t me)
draw_allowed c slots id me t turn s h count e fits =
    let n : ℕ = slice_index s.words 0 in
    let d : Draws = draws_of s.words s.views in
    let at = seat_at s.views id me.0 e in
    let below = next_below c.inputs c.workers d id (seat_of me.0) h.lawful at turn in
    let next : (n + 1) % 2 ^ 64 ≡ n + 1 = omega (arith, below, h.few) in
    let w : SeatView = view_of me.0 (seat_after me.0.inputs n (seat_of me.0)) in
    (w, keeps, tt, rw next (drawn_table c s.words s.views id me.0 h e turn), (refl, refl, drawn_below c.inputs c.workers d id (seat_of me.0) h.lawful at))

pub split_allowed : (c : DrawCounts) (id : ℕ) (v : SeatView) → 2 ≤ v.share → v.past ≡ 0 → Splits (λ (s : State ℕ SeatView). IsDrawTable c s.words s.views) id v (kept_half v) (given_half v)
split_allowed c id v two none s h e =
    let know = knowing c s.words s.views id v h e in
    let left : SeatView = kept_half v in
    let right : SeatView = given_half v in
    let seats : map seat_of (set s.views id left ++ right ∷ []) ≡ set (map seat_of s.views) id (seat_of left) ++ seat_of right ∷ []
    = map-append seat_of (set s.views id left) (right ∷ []) ∙ ap (λ xs. xs ++ seat_of right ∷ []) (map-set seat_of s.views id left) in
    let after : IsAfter c.inputs (split id (v.share / 2)) (draws_of s.words s.views) (draws_of s.words (set s.views id left ++ right ∷ []))
    = (seat_of v, seat_at s.views id v e, omega arith, omega arith, ap (λ (xs : List Seat). record { next = slice_index s.words 0; seats = xs }) seats) in
    record {
      word = h.word;
      lawful = split_keeps c.inputs c.workers id (v.share / 2) (draws_of s.words s.views) (draws_of s.words (set s.views id left ++ right ∷ [])) h.lawful after;
      counts = All-push (HasCounts c) (set s.views id left) right
          (All-set (HasCounts c) s.views id left (λ z. know (omega arith)) h.counts) (λ z. know (omega arith));
      few = h.few;
    }

pub join_allowed : (c : DrawCounts) (id : ℕ) (v : SeatView) (other : ℕ) (w : SeatView) → 0 < v.share
    → Joins (λ (s : State ℕ SeatView). IsDrawTable c s.words s.views) id v other w (view_with v w) spent_view
join_allowed c id v other w some_share s h e apart there =
    let know = knowing c s.words s.views id v h e in
    let both : SeatView = view_with v w in
    let was : get_elem? s.views other ≡ some w
    = ⊎_elim (λ (t : (other ≡ id) × (both ≡ w)). absurd (apart t.0)) (λ (t : (other ≢ id) × (get_elem? s.views other ≡ some w)). t.1) (at_set s.views id other both w there) in
    let first : List SeatView = set s.views id both in
    let seats : map seat_of (set first other spent_view) ≡ set (set (map seat_of s.views) id (seat_of both)) other (new_seat 0)
    = map-set seat_of first other spent_view ∙ ap (λ xs. set xs other (new_seat 0)) (map-set seat_of s.views id both) in
    let after : IsAfter c.inputs (join id other) (draws_of s.words s.views) (draws_of s.words (set first other spent_view))
    = (seat_of v, seat_of w, seat_at s.views id v e, seat_at s.views other w was, (λ z. apart (sym z)), ap (λ (xs : List Seat). record { next = slice_index s.words 0; seats = xs }) seats) in
    record {
      word = h.word;
      lawful = join_keeps c.inputs c.workers id other (draws_of s.words s.views) (draws_of s.words (set first other spent_view)) h.lawful after;
      counts = All-set (HasCounts c) first other spent_view (λ z. absurd (omega arith))
          (All-set (HasCounts c) s.views id both (λ z. know some_share) h.counts);
      few = h.few;
    }

pub opens : (c : DrawCounts) → c.inputs + c.workers < 2 ^ 64 → IsDrawTable c (0 ∷ []) (first_view c ∷ [])
opens c few = record {
  word = refl;
  lawful = start_lawful c.inputs c.workers;
  counts = All-push (HasCounts c) [] (first_view c) (λ k d l. absurd (omega arith)) (λ z. (refl, refl));
  few = few;
}
