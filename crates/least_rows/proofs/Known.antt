-- What was found stays right when states and rows are added.
use Rattle.std.proofs.Common.{inl, inr, ◌⊎◌, ◌≡◌, ◌≢◌, ℕ, zero, suc, ◌+◌, ◌-◌, ◌<◌, ◌≤◌, ◌==◌, Bool, true, false, All, List, [], ◌∷◌, ◌++◌, length, take, drop, get_or, refl, sym, ap, ◌∙◌, subst, arith, append-nil, append_assoc}
use Rattle.std.specs.Prelude.{Option, Some, None, slice_get, slice_index_or, slice_set}
use Rattle.std.proofs.lemmas.Bool.Decides.{nat_tests}
use Rattle.std.proofs.lemmas.List.{get_or-set_other, length-append, length-set, take-append-le}
use Rattle.std.proofs.lemmas.Grind.{get_or-set_at}
use Rattle.std.proofs.lemmas.List.Elements.{All-push, All-weaker}
use Rattle.std.proofs.lemmas.Option.{get_or_from_slice_get}
use Rattle.rhythm_base.specs.Trees.{suits}
use Rattle.grammar_plan.specs.Plans.{between, pair_of}
use Rattle.grammar_plan.specs.declared.plan.Plan.{Plan}
use Rattle.grammar_plan.specs.declared.seat.Seat.{Seat}
use Rattle.least_rows.specs.Searches.{ground_in, IsSearch}
use Rattle.least_rows.specs.declared.search.Search.{Search}
use Rattle.least_rows.specs.Choices.{AreBestChoices, AreSettled}
use Rattle.least_rows.specs.Entries.{IsRow}
use Rattle.least_rows.specs.States.{AreKnown, Grows, HasRow, HasState, IsRowAt, IsState}
use Rattle.least_rows.specs.Steps.{IsLeafAt, IsRowOf, KeepsRow}
use Rattle.least_rows.specs.declared.choice.Choice.{Choice}
use Rattle.least_rows.specs.declared.entry.Entry.{Entry}
use Rattle.least_rows.specs.declared.rows.Rows.{Rows}
use Rattle.least_rows.specs.declared.state.RowSpan.{RowSpan}
use Rattle.least_rows.specs.declared.state.State.{State}
use Rattle.row_laws.proofs.Grounds.{bounds, grounded}
use Rattle.least_rows.specs.Ways.{AreEntries, IsRankedRow, rank_in}
use Rattle.least_rows.proofs.Asked.{seat-of}
use Rattle.least_rows.proofs.RowEntries.{all-at, row-entries, row-ranked}
use Rattle.least_rows.proofs.Settling.{append-get, last-get, split-row}
use Rattle.rhythm_base.proofs.ListParts.{take_length}

-- ---- spans of a longer list

cut-append : {X : Type 0} (first n : ℕ) (xs ys : List X) → first + n ≤ length xs → take n (drop first (xs ++ ys)) ≡ take n (drop first xs)
cut-append zero n xs ys h = take-append-le n xs ys (omega (arith, h))
cut-append (suc first) n [] ys h = absurd (omega (arith, h))
cut-append (suc first) n (x ∷ xs) ys h = cut-append first n xs ys (omega (arith, h))

pub between-append : {X : Type 0} (first n : ℕ) (xs ys : List X) → first + n ≤ length xs → between (xs ++ ys) first (first + n) ≡ between xs first (first + n)
between-append first n xs ys h =
    let count : first + n - first ≡ n = omega arith in
    ap (λ m. take m (drop first (xs ++ ys))) count ∙ cut-append first n xs ys h ∙ sym (ap (λ m. take m (drop first xs)) count)

drop-front : {X : Type 0} (xs ys : List X) → drop (length xs) (xs ++ ys) ≡ ys
drop-front [] ys = refl
drop-front (x ∷ xs) ys = drop-front xs ys

take-whole : {X : Type 0} (ys : List X) → take (length ys) ys ≡ ys
take-whole [] = refl
take-whole (y ∷ ys) = ap (λ l. y ∷ l) (take-whole ys)

pub between-last : {X : Type 0} (xs ys : List X) (first n : ℕ) → first ≡ length xs → n ≡ length ys → between (xs ++ ys) first (first + n) ≡ ys
between-last xs ys first n e f =
    let count : first + n - first ≡ length ys = omega (arith, f) in
    (λ i. take (count i) (drop (e i) (xs ++ ys))) ∙ ap (take (length ys)) (drop-front xs ys) ∙ take-whole ys

-- ---- more entries

pub row-more : (bar : Search) (es more : List Entry) (p : ℕ) (q : ℕ × ℕ) (a : ℕ) (span : RowSpan) → IsRowAt bar es p q a span → IsRowAt bar (es ++ more) p q a span
row-more bar es more p q a span h = record {
  few = h.few;
  within = let low = h.within in let long = length-append es more in omega (arith, low, long);
  row = subst (IsRow (ground_in bar) bar.plan.now p q a) (sym (between-append span.first span.count es more h.within)) h.row;
}

pub state-more : (bar : Search) (es more : List Entry) (x : State) → IsState bar es x → IsState bar (es ++ more) x
state-more bar es more x h = record {
  seat = h.seat;
  at = h.at;
  within = h.within;
  leaf = h.leaf;
  rows = λ a span low e. row-more bar es more x.place (pair_of h.seat) a span (h.rows a span low e);
}

-- ---- what grows

pub grows-none : (rows : Rows) → Grows rows rows
grows-none rows = record { entries = ([], sym (append-nil rows.entries.items)); states = λ n seat place h. h }

pub grows-then : (x y z : Rows) → Grows x y → Grows y z → Grows x z
grows-then x y z h g = record {
  entries = (h.entries.0 ++ g.entries.0, g.entries.1 ∙ ap (λ l. l ++ g.entries.0) h.entries.1 ∙ append_assoc x.entries.items h.entries.0 g.entries.0);
  states = λ n seat place s. g.states n seat place (h.states n seat place s);
}

-- ---- one state more

module _ (old new : Rows) (x : State) (states : new.states.items ≡ old.states.items ++ x ∷ []) (entries : new.entries.items ≡ old.entries.items) where
  pub add-grows : Grows old new
  add-grows = record {
    entries = ([], entries ∙ sym (append-nil old.entries.items));
    states = λ n seat place h. (h.0, ap (λ l. slice_get l n) states ∙ append-get old.states.items (x ∷ []) h.0 n h.1, h.2, h.3);
  }

  pub add-known : (bar : Search) → AreKnown bar old → IsState bar old.entries.items x → AreKnown bar new
  add-known bar h own =
      let P : State → Type 0 = IsState bar old.entries.items in
      subst (λ es. All (IsState bar es) new.states.items) (sym entries) (subst (All P) (sym states) (All-push P old.states.items x h own))

  pub add-state : (n seat place : ℕ) → n ≡ length old.states.items → x.seat ≡ seat → x.place ≡ place → HasState new n seat place
  add-state n seat place e s p = (x, (λ i. slice_get (states i) (e i)) ∙ last-get old.states.items x, s, p)

-- ---- one row more

set-here : {X : Type 0} (xs : List X) (n : ℕ) (x y : X) → slice_get xs n ≡ Some x → slice_get (slice_set xs n y) n ≡ Some y
set-here [] n x y e = absurd (cc)
set-here (z ∷ xs) zero x y e = refl
set-here (z ∷ xs) (suc n) x y e = set-here xs n x y e

set-other : {X : Type 0} (xs : List X) (n m : ℕ) (y : X) → m ≢ n → slice_get (slice_set xs n y) m ≡ slice_get xs m
set-other [] n m y h = refl
set-other (z ∷ xs) zero zero y h = absurd (h refl)
set-other (z ∷ xs) zero (suc m) y h = refl
set-other (z ∷ xs) (suc n) zero y h = refl
set-other (z ∷ xs) (suc n) (suc m) y h = set-other xs n m y (λ e. h (ap suc e))

set-cases : (xs : List (Option RowSpan)) (n m : ℕ) (y z : RowSpan) → slice_index_or (slice_set xs n (Some y)) m None ≡ Some z → ((m ≡ n) × (y ≡ z)) ⊎ (slice_index_or xs m None ≡ Some z)
set-cases [] n m y z e = inr e
set-cases (x ∷ xs) zero zero y z e = inl (refl, (cc))
set-cases (x ∷ xs) zero (suc m) y z e = inr e
set-cases (x ∷ xs) (suc n) zero y z e = inr e
set-cases (x ∷ xs) (suc n) (suc m) y z e = elim (set-cases xs n m y z e) [ inl h ↦ inl (ap suc h.0, h.1) | inr h ↦ inr h ]

all-set : {X : Type 0} (P : X → Type 0) (xs : List X) (n : ℕ) (y : X) → All P xs → P y → All P (slice_set xs n y)
all-set P xs n y h own k d low = go (k == n) refl
  where
    long : length (slice_set xs n y) ≡ length xs
    long = length-set xs n y

    inside : k < length xs
    inside = omega (arith, low, long)

    go : (t : Bool) → (k == n) ≡ t → P (slice_index_or (slice_set xs n y) k d)
    go true e = let is : n ≡ k = grind (arith, nat_tests) in subst P (sym (get_or-set_at xs n k y d (sym is) (omega (arith, inside, is)))) own
    go false e = let other : k ≢ n = λ s. grind (arith, nat_tests) in subst P (sym (get_or-set_other xs n k y d other)) (h k d inside)

pub seat-same : (plan : Plan) (n m : ℕ) (s t : Seat) → n ≡ m → slice_get plan.seats.items n ≡ Some s → slice_get plan.seats.items m ≡ Some t → s ≡ t
seat-same plan n m s t e f h = let both : Some s ≡ Some t = sym f ∙ ap (slice_get plan.seats.items) e ∙ h in cc

-- a row that a state knows is one of its seat
pub row-of : (bar : Search) (rows : Rows) (number seat place from : ℕ) (span : RowSpan) → AreKnown bar rows → HasState rows number seat place → from < 5 → HasRow rows number from span
    → IsRowOf bar rows seat place from span
row-of bar rows number seat place from span known h low r s at =
    let both : Some h.0 ≡ Some r.0 = sym h.1 ∙ r.1 in
    let one : h.0 ≡ r.0 = cc in
    let x = all-at (IsState bar rows.entries.items) rows.states.items number r.0 known r.1 in
    let own : r.0.seat ≡ seat = ap (λ (x : State). x.seat) (sym one) ∙ h.2 in
    let there : r.0.place ≡ place = ap (λ (x : State). x.place) (sym one) ∙ h.3 in
    let row = x.rows from span low r.2 in
    subst (λ s. IsRowAt bar rows.entries.items place (pair_of s) from span) (seat-same bar.plan.now r.0.seat seat x.seat s own x.at at)
    (subst (λ p. IsRowAt bar rows.entries.items p (pair_of x.seat) from span) there row)

module _ (bar : Search) (old new : Rows) (number seat place from : ℕ) (best : List (Option Choice)) (span : RowSpan) (known : AreKnown bar old) (h : HasState old number seat place) (low : from < 5)
    (rules : Seat → ℕ → Type 0) (choices : (s : Seat) → slice_get bar.plan.now.seats.items seat ≡ Some s → AreBestChoices (ground_in bar) bar.plan.now place (pair_of s) from (rules s) best)
    (whole : (s : Seat) → slice_get bar.plan.now.seats.items seat ≡ Some s → (r : ℕ) → suits (slice_get bar.grammar.now.rules r) (pair_of s) ≡ true → rules s r) where
  settled-row : (es : List Entry) → AreSettled best old.entries.items es span → (s : Seat) → slice_get bar.plan.now.seats.items seat ≡ Some s → IsRowAt bar es place (pair_of s) from span
  settled-row es t s at =
      let few = t.split.few in
      let count = t.count in
      let first = t.first in
      let long = length-append old.entries.items t.es in
      let added = ap length t.added in
      record {
        few = omega (arith, few, count);
        within = omega (arith, first, count, long, added);
        row = subst (IsRow (ground_in bar) bar.plan.now place (pair_of s) from) (sym (ap (λ l. between l span.first (span.first + span.count)) t.added ∙ between-last old.entries.items t.es span.first span.count first count))
            (split-row (ground_in bar) bar.plan.now place (pair_of s) from (rules s) best t.left t.es (choices s at) (whole s at) t.split t.none);
      }

  pub keep-known : KeepsRow old new number from best span → AreKnown bar new
  keep-known t =
      let P : State → Type 0 = IsState bar new.entries.items in
      let es = t.3.es in
      let longer : All (IsState bar (old.entries.items ++ es)) old.states.items = All-weaker (IsState bar old.entries.items) (IsState bar (old.entries.items ++ es)) (λ x s. state-more bar old.entries.items es x s) old.states.items known in
      let all : All P old.states.items = subst (λ l. All (IsState bar l) old.states.items) (sym t.3.added) longer in
      let x = all-at P old.states.items number t.0 all t.1 in
      let both : Some h.0 ≡ Some t.0 = sym h.1 ∙ t.1 in
      let one : h.0 ≡ t.0 = cc in
      let own : t.0.seat ≡ seat = ap (λ (x : State). x.seat) (sym one) ∙ h.2 in
      let there : t.0.place ≡ place = ap (λ (x : State). x.place) (sym one) ∙ h.3 in
      let row : IsRowAt bar new.entries.items t.0.place (pair_of x.seat) from span
      = subst (λ p. IsRowAt bar new.entries.items p (pair_of x.seat) from span) (sym there) (settled-row new.entries.items t.3 x.seat (ap (slice_get bar.plan.now.seats.items) (sym own) ∙ x.at)) in
      subst (All P) (sym t.2) (all-set P old.states.items number _ all (record {
        seat = x.seat;
        at = x.at;
        within = x.within;
        leaf = x.leaf;
        rows = λ a sp la e. elim (set-cases t.0.rows from a span sp e) [
          | inl new-one ↦ subst (λ sp. IsRowAt bar new.entries.items t.0.place (pair_of x.seat) a sp) new-one.1 (subst (λ a. IsRowAt bar new.entries.items t.0.place (pair_of x.seat) a span) (sym new-one.0) row)
          | inr old-one ↦ x.rows a sp la old-one
        ];
      }))

  pub keep-row : KeepsRow old new number from best span → IsRowOf bar new seat place from span
  keep-row t s at = settled-row new.entries.items t.3 s at

  pub keep-grows : KeepsRow old new number from best span → Grows old new
  keep-grows t = record {
    entries = (t.3.es, t.3.added);
    states = λ n s p x. state n s p x (n == number) refl;
  }
    where
      state : (n s p : ℕ) → HasState old n s p → (u : Bool) → (n == number) ≡ u → HasState new n s p
      state n s p x true e =
          let is : n ≡ number = grind (arith, nat_tests) in
          let both : Some x.0 ≡ Some t.0 = sym x.1 ∙ ap (slice_get old.states.items) is ∙ t.1 in
          let one : x.0 ≡ t.0 = cc in
          (_, (λ i. slice_get (t.2 i) (is i)) ∙ set-here old.states.items number t.0 _ t.1, ap (λ (x : State). x.seat) (sym one) ∙ x.2, ap (λ (x : State). x.place) (sym one) ∙ x.3)
      state n s p x false e =
          let other : n ≢ number = λ w. grind (arith, nat_tests) in
          (x.0, ap (λ l. slice_get l n) t.2 ∙ set-other old.states.items number n _ other ∙ x.1, x.2, x.3)

-- ---- the row of a span

drop-long : {X : Type 0} (n : ℕ) (xs : List X) → n ≤ length xs → n + length (drop n xs) ≡ length xs
drop-long zero xs h = omega arith
drop-long (suc n) [] h = absurd (omega arith)
drop-long (suc n) (x ∷ xs) h = let ih = drop-long n xs (omega (arith, h)) in omega (arith, ih)

pub between-long : {X : Type 0} (first n : ℕ) (xs : List X) → first + n ≤ length xs → length (between xs first (first + n)) ≡ n
between-long first n xs h =
    let count : first + n - first ≡ n = omega arith in
    let rest = drop-long first xs (omega (arith, h)) in
    ap (λ m. length (take m (drop first xs))) count ∙ take_length n (drop first xs) (omega (arith, h, rest))

module _ (bar : Search) (is : IsSearch bar) (n : ℕ) (s : Seat) (at : slice_get bar.plan.now.seats.items n ≡ Some s) (es : List Entry) (place from : ℕ) (span : RowSpan)
    (row : IsRowAt bar es place (pair_of s) from span) (xs : List Entry) (there : xs ≡ between es span.first (span.first + span.count)) where
  few-entries : length (between es span.first (span.first + span.count)) ≤ 5
  few-entries = let long = between-long span.first span.count es row.within in let few = row.few in omega (arith, long, few)

  pub span-entries : AreEntries xs
  span-entries =
      let seat = seat-of bar.grammar.now bar.plan.now is.plan_of n s at in
      subst AreEntries (sym there) (row-entries (ground_in bar) bar.plan.now place (pair_of s) from (between es span.first (span.first + span.count)) row.row (grounded bar.grammar.now bar.input.now is.ready) (bounds bar.grammar.now bar.input.now is.ready) few-entries seat.wide seat.within)

  pub span-ranked : IsRankedRow (ground_in bar) place (pair_of s) from (rank_in xs 0)
  span-ranked = subst (λ xs. IsRankedRow (ground_in bar) place (pair_of s) from (rank_in xs 0)) (sym there) (row-ranked (ground_in bar) bar.plan.now place (pair_of s) from (between es span.first (span.first + span.count)) row.row few-entries)

-- the leaf of a state is that of its seat
pub leaf-of : (bar : Search) (rows : Rows) (number seat place : ℕ) (y : State) → AreKnown bar rows → HasState rows number seat place → y ≡ get_or rows.states.items number y
    → (s : Seat) → slice_get bar.plan.now.seats.items seat ≡ Some s → IsLeafAt bar.grammar.now bar.input.now place s.width y.leaf
leaf-of bar rows number seat place y known h e s at =
    let one : y ≡ h.0 = e ∙ get_or_from_slice_get rows.states.items number h.0 y h.1 in
    let x = all-at (IsState bar rows.entries.items) rows.states.items number h.0 known h.1 in
    let there = seat-same bar.plan.now h.0.seat seat x.seat s h.2 x.at at in
    subst (λ (y : State). IsLeafAt bar.grammar.now bar.input.now place s.width y.leaf) (sym one)
    (subst (λ p. IsLeafAt bar.grammar.now bar.input.now p s.width h.0.leaf) h.3 (subst (λ (s : Seat). IsLeafAt bar.grammar.now bar.input.now h.0.place s.width h.0.leaf) there x.leaf))
