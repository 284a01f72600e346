-- Seats, one by one.
use Rattle.std.proofs.Common.{◌≡◌, ℕ, zero, suc, ◌<◌, ◌≤◌, ◌⊎◌, inl, inr, List, [], ◌∷◌, ◌++◌, length, get_or, map, refl, sym, ap, subst, arith}
use Rattle.std.specs.Prelude.{Option, Some, slice_get, slice_set}
use Rattle.std.proofs.lemmas.Bool.{cases_lt}
use Rattle.std.proofs.lemmas.Option.{slice_get_within}
use Rattle.std.proofs.lemmas.List.Elements.{All-append, All-cons, All-contains, All-map, All-nil}
use Rattle.rhythm_base.specs.Grammar.{Grammar}
use Rattle.rhythm_base.specs.Readable.{IsReadable}
use Rattle.rhythm_base.specs.declared.grammar.Start.{Start}
use Rattle.grammar_plan.specs.Drafts.{ArePairs, AreSeatsIn, HasMoreCuts, HasPair, IsDraft, IsLonger, IsSeatIn}
use Rattle.grammar_plan.specs.Plans.{HaveSeatsOverBars, IsRoot, pair_of}
use Rattle.grammar_plan.specs.declared.cut.Cut.{Cut}
use Rattle.grammar_plan.specs.declared.seat.Seat.{Seat}
use Rattle.grammar_plan.proofs.Cutting.{cut-longer}
use Rattle.grammar_plan.proofs.Growing.{get-last, get-longer, get-shorter, get-within, length-longer}
use Rattle.grammar_plan.proofs.LeafTables.{some_one}

seat-longer : (g : Grammar) (old pairs : List (ℕ × ℕ)) (before parts : List ℕ) (was cuts : List Cut) (s : Seat) → IsLonger old pairs → IsLonger before parts → IsLonger was cuts → IsSeatIn g old before was s
    → IsSeatIn g pairs parts cuts s
seat-longer g old pairs before parts was cuts s h k l is =
    let inside = is.inside in
    let long = length-longer was cuts l in
    record {
      order = is.order;
      inside = omega (arith, inside, long);
      each = λ i c from low e. cut-longer g old pairs before parts (pair_of s) c h k (is.each i c from low (get-shorter was cuts i c l (omega (arith, low, inside)) e));
      rise = λ i j c d from order low e f. is.rise i j c d from order low (get-shorter was cuts i c l (omega (arith, order, low, inside)) e) (get-shorter was cuts j d l (omega (arith, low, inside)) f);
      whole = λ r rule cut. let there = is.whole r rule cut in (there.0, there.1, there.2, there.3, get-longer was cuts there.0 there.1 l there.4, there.5);
    }

-- the seat of the next pair is made
pub seat-next : (g : Grammar) (old pairs : List (ℕ × ℕ)) (before parts : List ℕ) (was cuts : List Cut) (seats more : List Seat) (s : Seat) → IsDraft g old before was seats
    → HasMoreCuts g (pair_of s) old pairs before parts was cuts (length g.rules) → HasPair old (length seats) (pair_of s) → s.first ≡ length was → s.end ≡ length cuts → more ≡ seats ++ s ∷ [] → IsDraft g pairs parts cuts more
seat-next g old pairs before parts was cuts seats more s draft h here first end is = record {
  lawful = let law = draft.lawful (length seats) (pair_of s) here in h.lawful draft.lawful law.0 law.1;
  each = subst (AreSeatsIn g pairs parts cuts) (sym is) each;
}
  where
    own : IsSeatIn g pairs parts cuts s
    own =
        let far = length-longer was cuts h.cuts_longer in
        record {
          order = omega (arith, first, end, far);
          inside = omega (arith, end);
          each = λ i c from low e. h.own.each i c (omega (arith, from, first)) e;
          rise = λ i j c d from order low e f. h.own.rise i j c d (omega (arith, from, first)) order e f;
          whole = λ r rule cut.
              let there = h.own.whole r rule (slice_get_within g.rules r rule cut.at) cut in
              let from = there.2 in
              let low = slice_get_within cuts there.0 there.1 there.3 in
              (there.0, there.1, omega (arith, from, first), omega (arith, low, end), there.3, there.4);
        }

    each : AreSeatsIn g pairs parts cuts (seats ++ s ∷ [])
    each n t e = elim (get-last seats s t n e) [
      | inl there ↦
          let old_one = draft.each n t there in
          (get-longer old pairs n (pair_of t) h.pairs_longer old_one.0, seat-longer g old pairs before parts was cuts t h.pairs_longer h.parts_longer h.cuts_longer old_one.1)
      | inr last ↦ (
        subst (λ m. HasPair pairs m (pair_of t)) (sym last.0) (subst (λ x. HasPair pairs (length seats) (pair_of x)) (sym last.1) (get-longer old pairs (length seats) (pair_of s) h.pairs_longer here)),
        subst (IsSeatIn g pairs parts cuts) (sym last.1) own,
      )
    ]

pub draft-none : (g : Grammar) (pairs : List (ℕ × ℕ)) (parts : List ℕ) (cuts : List Cut) → ArePairs g.resolution (length g.names) pairs → IsDraft g pairs parts cuts []
draft-none g pairs parts cuts h = record { lawful = h; each = λ n s e. absurd (cc) }

-- ---- roots

abbrev pub HaveRoots : ℕ → List (ℕ × ℕ) → List (Option ℕ) → Type 0
HaveRoots most pairs seats = (symbol n : ℕ) → slice_get seats symbol ≡ Some (Some n) → HasPair pairs n (most, symbol)

get-set : {X : Type 0} (xs : List X) (i n : ℕ) (x y : X) → slice_get (slice_set xs i x) n ≡ Some y → ((n ≡ i) × (y ≡ x)) ⊎ (slice_get xs n ≡ Some y)
get-set [] i n x y e = inr e
get-set (z ∷ xs) zero zero x y e = inl (refl, sym (some_one x y e))
get-set (z ∷ xs) zero (suc n) x y e = inr e
get-set (z ∷ xs) (suc i) zero x y e = inr e
get-set (z ∷ xs) (suc i) (suc n) x y e = elim (get-set xs i n x y e) [
  | inl h ↦ inl (ap suc h.0, h.1)
  | inr h ↦ inr h
]

pub roots-next : (most root seat : ℕ) (old pairs : List (ℕ × ℕ)) (seats : List (Option ℕ)) → HaveRoots most old seats → (pairs ≡ old) ⊎ (pairs ≡ old ++ (most, root) ∷ []) → HasPair pairs seat (most, root)
    → HaveRoots most pairs (slice_set seats root (Some seat))
roots-next most root seat old pairs seats h step has symbol n e = elim (get-set seats root symbol (Some seat) (Some n) e) [
  | inl new ↦ subst (λ s. HasPair pairs n (most, s)) (sym new.0) (subst (λ m. HasPair pairs m (most, root)) (some_one seat n (sym new.1)) has)
  | inr there ↦ elim step [
    | inl same ↦ subst (λ l. HasPair l n (most, symbol)) (sym same) (h symbol n there)
    | inr more ↦ get-longer old pairs n (most, symbol) ((most, root) ∷ [], more) (h symbol n there)
  ]
]

pub lawful-next : (most names root : ℕ) (old pairs : List (ℕ × ℕ)) → ArePairs most names old → 1 ≤ most → root < names → (pairs ≡ old) ⊎ (pairs ≡ old ++ (most, root) ∷ []) → ArePairs most names pairs
lawful-next most names root old pairs h some low step = elim step [
  | inl same ↦ subst (ArePairs most names) (sym same) h
  | inr more ↦ subst (ArePairs most names) (sym more) (λ n q e. elim (get-last old (most, root) q n e) [
    | inl there ↦ h n q there
    | inr last ↦ subst (λ (p : ℕ × ℕ). (1 ≤ p.0) × (p.0 ≤ most) × (p.1 < names)) (sym last.1) (some, omega arith, low)
  ])
]

-- the root of a start is a name
pub start-low : (g : Grammar) (starts : List Start) (i : ℕ) (none : Start) → IsReadable g → starts ≡ g.starts → i < length g.starts
    → (get_or starts i none).symbol < length g.names
start-low g starts i none readable is low = subst (λ xs. (get_or xs i none).symbol < length g.names) (sym is) (readable.starts i none low).symbol

get-put : {X : Type 0} (xs : List X) (i : ℕ) (x : X) → i < length xs → slice_get (slice_set xs i x) i ≡ Some x
get-put [] i x low = absurd (omega (arith, low))
get-put (z ∷ xs) zero x low = refl
get-put (z ∷ xs) (suc i) x low = get-put xs i x (omega (arith, low))

get-kept : (xs : List (Option ℕ)) (i n seat : ℕ) → (m : ℕ) × (slice_get xs n ≡ Some (Some m))
    → (m : ℕ) × (slice_get (slice_set xs i (Some seat)) n ≡ Some (Some m))
get-kept [] i n seat h = h
get-kept (z ∷ xs) zero zero seat h = (seat, refl)
get-kept (z ∷ xs) zero (suc n) seat h = h
get-kept (z ∷ xs) (suc i) zero seat h = h
get-kept (z ∷ xs) (suc i) (suc n) seat h = get-kept xs i n seat h

abbrev HasSeatOverBars : List (Option ℕ) → ℕ → Type 0
HasSeatOverBars roots symbol = (n : ℕ) × (slice_get roots symbol ≡ Some (Some n))

-- the next start has its seat
pub starts-next : (seat : ℕ) (seats : List (Option ℕ)) (starts : List Start) (start : Start)
    → start.symbol < length seats → HaveSeatsOverBars seats starts → HaveSeatsOverBars (slice_set seats start.symbol (Some seat)) (starts ++ start ∷ [])
starts-next seat seats starts start low h =
    let P : Start → Type 0 = λ s. HasSeatOverBars (slice_set seats start.symbol (Some seat)) s.symbol in
    All-append P starts (start ∷ []) (λ i d within. get-kept seats start.symbol (get_or starts i d).symbol seat (h i d within))
    (All-cons P start [] (seat, get-put seats start.symbol (Some seat) low) (All-nil P))

-- the root of a start has a seat
pub root-had : (g : Grammar) (roots : List (Option ℕ)) (symbol : ℕ) → HaveSeatsOverBars roots g.starts → IsRoot g symbol → HasSeatOverBars roots symbol
root-had g roots symbol h is =
    let root : Start → ℕ = λ start. start.symbol in
    All-contains (HasSeatOverBars roots) (map root g.starts) symbol (All-map (HasSeatOverBars roots) root g.starts h) is

-- no seat is without its pair
pub draft-few : (g : Grammar) (pairs : List (ℕ × ℕ)) (parts : List ℕ) (cuts : List Cut) (seats : List Seat) → IsDraft g pairs parts cuts seats → length seats ≤ length pairs
draft-few g pairs parts cuts seats h = elim (cases_lt (length pairs) (length seats)) [
  | inr le ↦ le
  | inl above ↦
      let last = get-within seats (length pairs) above in
      let low = slice_get_within pairs (length pairs) (pair_of last.0) (h.each (length pairs) last.0 last.1).0 in
      absurd (omega (arith, low))
]
