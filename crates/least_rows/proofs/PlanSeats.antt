-- The seats of a plan, and those of the parts of a cut.
use Rattle.std.proofs.Common.{◌≡◌, ℕ, zero, suc, ◌<◌, ◌≤◌, ◌+◌, ◌-◌, ◌*◌, List, [], ◌∷◌, length, take, drop, get_or, refl, sym, ap, ◌∙◌, subst, arith, length-drop}
use Rattle.std.specs.Prelude.{All, Option, Some, None, slice_get, ◌==◌, OnOk, Result, Ok, Err}
use Rattle.std.proofs.Math.Nat.{mul-le-mul_right}
use Rattle.std.proofs.Math.Seq.{drop-cons}
use Rattle.std.proofs.lemmas.List.{get_or-drop, get_or-take, length-take-le}
use Rattle.std.proofs.lemmas.List.Elements.{All-get_or}
use Rattle.std.proofs.lemmas.Option.{slice_get_within, get_or_from_slice_get}
use Rattle.rhythm_base.specs.Bodies.{children, sizes}
use Rattle.rhythm_base.specs.Grammar.{Grammar}
use Rattle.rhythm_base.proofs.Booleans.{and_right}
use Rattle.tree_laws.specs.Shares.{AreBelow}
use Rattle.tree_laws.proofs.Shares.{children-below, children-whole}
use Rattle.rhythm_base.specs.Trees.{leaf_of_ending}
use Rattle.grammar_plan.specs.Plans.{HasSeat, HaveSeats, IsCutOf, IsPlan, IsSeat, between, pair_of}
use Rattle.grammar_plan.specs.declared.cut.Cut.{Cut}
use Rattle.grammar_plan.specs.declared.plan.Plan.{Plan}
use Rattle.grammar_plan.specs.declared.seat.Seat.{Seat}
use Rattle.least_rows.specs.Places.{IsRoot, IsSeatPlace}
use Rattle.least_rows.specs.declared.parts.Parts.{Parts}
use Rattle.least_rows.specs.declared.search.Search.{Search}
use Rattle.least_rows.specs.Parts.{AreSeatsOf}

-- ---- what stands at a place of a list

-- two things at one place are one
pub one_at : {X : Type 0} (xs : List X) (n : ℕ) (x y : X) → slice_get xs n ≡ Some x → slice_get xs n ≡ Some y → x ≡ y
one_at xs n x y h k = let both : Some x ≡ Some y = sym h ∙ k in cc

pub All-at : {X : Type 0} (P : X → Type 0) (xs : List X) (n : ℕ) (x : X) → All P xs → slice_get xs n ≡ Some x → P x
All-at P xs n x all at = subst P (get_or_from_slice_get xs n x x at) (All-get_or P xs n x (slice_get_within xs n x at) all)

-- the seat at a place is there
pub place-there : (bar : Search) (seat place : ℕ) → IsSeatPlace bar seat place → seat < length bar.plan.now.seats.items
place-there bar seat place h = slice_get_within bar.plan.now.seats.items seat h.0 h.1

-- and its interval lies in the bar
pub place-within : (bar : Search) (seat place : ℕ) → IsSeatPlace bar seat place → (s : Seat) → slice_get bar.plan.now.seats.items seat ≡ Some s → place + s.width ≤ bar.input.now.resolution
place-within bar seat place h s at = subst (λ (s : Seat). place + s.width ≤ bar.input.now.resolution) (one_at bar.plan.now.seats.items seat h.0 s h.1 at) h.2

-- the root's seat stands at the bar's beginning
pub root-place : (bar : Search) (seat : ℕ) → IsRoot bar seat → IsSeatPlace bar seat 0
root-place bar seat h =
    let wide : h.0.width ≡ bar.input.now.resolution = ap (λ (q : ℕ × ℕ). q.0) h.2 in
    (h.0, h.1, omega (arith, wide))

pub on_ok : {T E P Q : Type 0} (r : Result T E) → (P → Q) → OnOk r P → OnOk r Q
on_ok (Ok x) f h = f h
on_ok (Err e) f h = tt

-- ---- between two places

pub between-cons : (xs : List ℕ) (a b d : ℕ) → a < b → b ≤ length xs → between xs a b ≡ get_or xs a d ∷ between xs (a + 1) b
between-cons xs a b d low within =
    let here : drop a xs ≡ get_or xs a d ∷ drop (suc a) xs = drop-cons xs a d (omega arith) in
    let count : b - a ≡ suc (b - (a + 1)) = omega arith in
    let next : suc a ≡ a + 1 = omega arith in
    (λ i. take (count i) (here i)) ∙ ap (λ n. get_or xs a d ∷ take (b - (a + 1)) (drop n xs)) next

-- ---- widths

-- the width of a seat
abbrev pub width_of : Option Seat → ℕ
width_of None = 0
width_of (Some s) = s.width

module _ (g : Grammar) (plan : Plan) where
  pub seat_of : IsPlan g plan → (n : ℕ) (s : Seat) → slice_get plan.seats.items n ≡ Some s → IsSeat g plan s
  seat_of plan_of n s at = All-at (IsSeat g plan) plan.seats.items n s plan_of.seats at

  -- the parts of a cut are narrower than what it cuts
  pub cut_below : (q : ℕ × ℕ) (c : Cut) → 1 ≤ q.0 → (h : IsCutOf g plan q c) → AreBelow q.0 (children h.rule.body q.0)
  cut_below q c wide h = children-below h.rule.body q.0 wide (and_right (h.rule.lhs == q.1) _ h.is.suit)

  -- and together as wide
  pub cut_whole : (q : ℕ × ℕ) (c : Cut) → 1 ≤ q.0 → (h : IsCutOf g plan q c) → sizes (children h.rule.body q.0) ≡ q.0
  cut_whole q c wide h = (children-whole h.rule.body 0 q.0 wide (and_right (h.rule.lhs == q.1) _ h.is.suit) (ap (λ o. leaf_of_ending o 0 q.0) h.is.cuts)).0

-- ---- parts

module _ (plan : Plan) where
  -- the first of the parts, and the others
  pub HaveSeats-first : (n : ℕ) (ns : List ℕ) (qs : List (ℕ × ℕ)) → HaveSeats plan (n ∷ ns) qs → (q : ℕ × ℕ) × (rest : List (ℕ × ℕ)) × (qs ≡ q ∷ rest) × HasSeat plan n q × HaveSeats plan ns rest
  HaveSeats-first n ns [] h = absurd h
  HaveSeats-first n ns (q ∷ qs) h = (q, qs, refl, h.0, h.1)

  pub parts-first : (x : Parts) (qs : List (ℕ × ℕ)) (d : ℕ) → x.first < x.end → x.end ≤ length plan.parts.items → AreSeatsOf plan x qs
      → (q : ℕ × ℕ) × (rest : List (ℕ × ℕ)) × (qs ≡ q ∷ rest) × HasSeat plan (get_or plan.parts.items x.first d) q × HaveSeats plan (between plan.parts.items (x.first + 1) x.end) rest
  parts-first x qs d low within h =
      HaveSeats-first (get_or plan.parts.items x.first d) (between plan.parts.items (x.first + 1) x.end) qs (subst (λ ns. HaveSeats plan ns qs) (between-cons plan.parts.items x.first x.end d low within) h)

  pub has_seat-within : (n : ℕ) (q : ℕ × ℕ) → HasSeat plan n q → n < length plan.seats.items
  has_seat-within n q h = slice_get_within plan.seats.items n h.0 h.1

  pub has_seat-width : (n : ℕ) (q : ℕ × ℕ) → HasSeat plan n q → width_of (slice_get plan.seats.items n) ≡ q.0
  has_seat-width n q h = ap width_of h.1 ∙ ap (λ (q : ℕ × ℕ). q.0) h.2

  pub has_seat-pair : (n : ℕ) (q : ℕ × ℕ) (s : Seat) → HasSeat plan n q → slice_get plan.seats.items n ≡ Some s → pair_of s ≡ q
  has_seat-pair n q s h at = ap pair_of (one_at plan.seats.items n s h.0 at h.1) ∙ h.2

  -- ---- measures

  -- that of a seat, and that of so many parts of an interval
  abbrev pub seat_measure : ℕ → ℕ
  seat_measure n = (width_of (slice_get plan.seats.items n) + 1) * (length plan.parts.items + 2)

  abbrev pub parts_measure : ℕ → ℕ → ℕ
  parts_measure w count = w * (length plan.parts.items + 2) + count + 1

  pub parts_lower : (n w count : ℕ) (s : Seat) → slice_get plan.seats.items n ≡ Some s → w ≡ s.width → count ≤ length plan.parts.items → parts_measure w count < seat_measure n
  parts_lower n w count s at wide few =
      let same : width_of (slice_get plan.seats.items n) ≡ s.width = ap width_of at in
      let m : ℕ = length plan.parts.items + 2 in
      let whole : (width_of (slice_get plan.seats.items n) + 1) * m ≡ (w + 1) * m = ap (λ v. (v + 1) * m) (same ∙ sym wide) in
      let split : (w + 1) * m ≡ w * m + m = grind arith in
      omega (arith, whole, split, few)

  pub seat_lower : (n w count : ℕ) (q : ℕ × ℕ) → HasSeat plan n q → q.0 < w → seat_measure n < parts_measure w count
  seat_lower n w count q h low =
      let m : ℕ = length plan.parts.items + 2 in
      let same : (width_of (slice_get plan.seats.items n) + 1) * m ≡ (q.0 + 1) * m = ap (λ v. (v + 1) * m) (has_seat-width n q h) in
      let more : (q.0 + 1) * m ≤ w * m = mul-le-mul_right m (omega (arith, low)) in
      omega (arith, same, more)

-- ---- a part by its place

module _ (plan : Plan) where
  pub HaveSeats-length : (ns : List ℕ) (qs : List (ℕ × ℕ)) → HaveSeats plan ns qs → length ns ≡ length qs
  HaveSeats-length [] [] h = refl
  HaveSeats-length [] (q ∷ qs) h = absurd h
  HaveSeats-length (n ∷ ns) [] h = absurd h
  HaveSeats-length (n ∷ ns) (q ∷ qs) h = ap suc (HaveSeats-length ns qs h.1)

  HaveSeats-at : (ns : List ℕ) (qs : List (ℕ × ℕ)) (i d : ℕ) → HaveSeats plan ns qs → i < length ns → HasSeat plan (get_or ns i d) (get_or qs i (0, 0))
  HaveSeats-at [] qs i d h low = absurd (omega arith)
  HaveSeats-at (n ∷ ns) [] i d h low = absurd h
  HaveSeats-at (n ∷ ns) (q ∷ qs) zero d h low = h.0
  HaveSeats-at (n ∷ ns) (q ∷ qs) (suc i) d h low = HaveSeats-at ns qs i d h.1 (omega arith)

  between-length : (x : Parts) → x.first ≤ x.end → x.end ≤ length plan.parts.items → length (between plan.parts.items x.first x.end) ≡ x.end - x.first
  between-length x order within =
      let rest = length-drop x.first plan.parts.items in
      length-take-le (x.end - x.first) (drop x.first plan.parts.items) (omega (arith, rest))

  pub parts-length : (x : Parts) (qs : List (ℕ × ℕ)) → x.first ≤ x.end → x.end ≤ length plan.parts.items → AreSeatsOf plan x qs → length qs ≡ x.end - x.first
  parts-length x qs order within h = sym (HaveSeats-length (between plan.parts.items x.first x.end) qs h) ∙ between-length x order within

  pub parts-at : (x : Parts) (qs : List (ℕ × ℕ)) (i d : ℕ) → x.first ≤ i → i < x.end → x.end ≤ length plan.parts.items → AreSeatsOf plan x qs
      → HasSeat plan (get_or plan.parts.items i d) (get_or qs (i - x.first) (0, 0))
  parts-at x qs i d low high within h =
      let long = between-length x (omega arith) within in
      let one = HaveSeats-at (between plan.parts.items x.first x.end) qs (i - x.first) d h (omega (arith, long)) in
      let place : x.first + (i - x.first) ≡ i = omega arith in
      let same : get_or (between plan.parts.items x.first x.end) (i - x.first) d ≡ get_or plan.parts.items i d
      = get_or-take (x.end - x.first) (drop x.first plan.parts.items) (i - x.first) d (omega arith) ∙ get_or-drop x.first plan.parts.items (i - x.first) d ∙ ap (λ n. get_or plan.parts.items n d) place in
      subst (λ n. HasSeat plan n (get_or qs (i - x.first) (0, 0))) same one

-- the widths of the first so many, and one more
pub sizes-more : (qs : List (ℕ × ℕ)) (n : ℕ) → n < length qs → sizes (take (suc n) qs) ≡ sizes (take n qs) + (get_or qs n (0, 0)).0
sizes-more [] n low = absurd (omega arith)
sizes-more (q ∷ qs) zero low = omega arith
sizes-more (q ∷ qs) (suc n) low = let more = sizes-more qs n (omega arith) in omega (arith, more)

pub below-at : (w : ℕ) (qs : List (ℕ × ℕ)) (i : ℕ) → AreBelow w qs → i < length qs → (1 ≤ (get_or qs i (0, 0)).0) × ((get_or qs i (0, 0)).0 < w)
below-at w [] i h low = absurd (omega arith)
below-at w (q ∷ qs) zero h low = (h.0, h.1)
below-at w (q ∷ qs) (suc i) h low = below-at w qs i h.2 (omega arith)
