-- The lines of a script are in range.
use Rattle.std.proofs.Common.{◌≡◌, ℕ, zero, suc, ◌+◌, ◌-◌, ◌*◌, ◌≤◌, List, [], ◌∷◌, ◌++◌, length, map, replicate, subst, arith}
use Rattle.std.specs.Prelude.{All, filter, reverse}
use Rattle.std.specs.List.{flat_map, range_with_len}
use Rattle.std.proofs.Math.Nat.{div-le_of_le-mul, mul-le-mul_right}
use Rattle.std.proofs.lemmas.List.Elements.{All-append, All-filter, All-map, All-replicate}
use Rattle.rhythm_base.specs.declared.edit.Edit.TheVariants.{AddBar, DropBar}
use Rattle.rhythm_base.specs.declared.limits.TheConstants.{LATEST_TICK, MOST_BARS}
use Rattle.rhythm_base.specs.EditRanges.{IsEditInRange}
use Rattle.rhythm_base.specs.Performance.{IsWellFormed, Performance}
use Rattle.rhythm_base.proofs.OrderedLists.{all_cons, all_head, all_tail}
use Rattle.barline_follow.specs.Bars.{barlines_of}
use Rattle.barline_follow.specs.Script.{first_barlines, last_bar, last_barlines, pace, script}
use Rattle.barline_follow.specs.Stages.{Shift, aim, aims, all_stages, is_earlier, is_later, shift_line, paired, shifts, stage, stage_count, stage_lines}
use Rattle.barline_follow.proofs.Further.{length-barlines, length-lengthened}
use Rattle.barline_follow.proofs.Paired.{paired_short}
use Rattle.rhythm_base.proofs.ListParts.{all_reversed}

abbrev AreEarly : List ℕ → Type 0
AreEarly ticks = All (λ tick. tick ≤ LATEST_TICK) ticks

all_paired : (f : ℕ → ℕ → ℕ) (most : ℕ) → ((a b : ℕ) → a ≤ most → b ≤ most → f a b ≤ most) → (xs ys : List ℕ)
    → All (λ x. x ≤ most) xs → All (λ y. y ≤ most) ys → All (λ x. x ≤ most) (paired f xs ys)
all_paired f most below [] ys h k = λ i d lt. absurd (omega (arith, lt))
all_paired f most below (x ∷ xs) [] h k = λ i d lt. absurd (omega (arith, lt))
all_paired f most below (x ∷ xs) (y ∷ ys) h k =
    all_cons (λ x. x ≤ most) (f x y) (paired f xs ys)
    (below x y (all_head (λ x. x ≤ most) x xs h) (all_head (λ x. x ≤ most) y ys k))
    (all_paired f most below xs ys (all_tail (λ x. x ≤ most) x xs h) (all_tail (λ x. x ≤ most) y ys k))

-- an aim lies between where a barline comes from and where it goes
pub aim_below : (most stages s : ℕ) → s ≤ stages → (a b : ℕ) → a ≤ most → b ≤ most → aim stages s a b ≤ most
aim_below most stages s within a b low high =
    let first : a * (stages - s) ≤ most * (stages - s) = mul-le-mul_right (stages - s) low in
    let second : b * s ≤ most * s = mul-le-mul_right s high in
    let split : (stages - s) + s ≡ stages = omega (arith, within) in
    let both : most * (stages - s) + most * s ≡ most * stages = sums most (stages - s) s stages split in
    div-le_of_le-mul stages (omega (arith, first, second, both))
  where
    sums : (m r s t : ℕ) → r + s ≡ t → m * r + m * s ≡ m * t
    sums m r s t e = subst (λ t. m * r + m * s ≡ m * t) e (omega arith)

pub aims_early : (stages s : ℕ) (ticks goal : List ℕ) → s ≤ stages → AreEarly ticks → AreEarly goal → AreEarly (aims stages s ticks goal)
aims_early stages s ticks goal within h k =
    all_paired (aim stages s) LATEST_TICK (aim_below LATEST_TICK stages s within) ticks goal h k

abbrev IsInRange : Shift → Type 0
IsInRange s = IsEditInRange (shift_line s)

shifts_in_range : (j : ℕ) (ticks to : List ℕ) → j + length ticks ≤ MOST_BARS + 1 → AreEarly to → All IsInRange (shifts j ticks to)
shifts_in_range j [] to few h = λ i d lt. absurd (omega (arith, lt))
shifts_in_range j (t ∷ ticks) [] few h = λ i d lt. absurd (omega (arith, lt))
shifts_in_range j (t ∷ ticks) (a ∷ to) few h =
    all_cons IsInRange (record { bar = j; tick = t; to = a }) (shifts (suc j) ticks to)
    (omega (arith, few), all_head (λ t. t ≤ LATEST_TICK) a to h)
    (shifts_in_range (suc j) ticks to (omega (arith, few)) (all_tail (λ t. t ≤ LATEST_TICK) a to h))

stage_in_range : (ticks to : List ℕ) → length ticks ≤ MOST_BARS + 1 → AreEarly to → All IsEditInRange (stage ticks to)
stage_in_range ticks to few h =
    let all : All IsInRange (shifts 0 ticks to) = shifts_in_range 0 ticks to (omega (arith, few)) h in
    let later = all_reversed IsInRange (filter is_later (shifts 0 ticks to)) (All-filter is_later IsInRange (shifts 0 ticks to) all) in
    let earlier = All-filter is_earlier IsInRange (shifts 0 ticks to) all in
    All-append IsEditInRange (map shift_line (reverse (filter is_later (shifts 0 ticks to)))) (map shift_line (filter is_earlier (shifts 0 ticks to)))
    (All-map IsEditInRange shift_line (reverse (filter is_later (shifts 0 ticks to))) later)
    (All-map IsEditInRange shift_line (filter is_earlier (shifts 0 ticks to)) earlier)

stages_in_range : (stages : ℕ) (ticks goal : List ℕ) → length ticks ≤ MOST_BARS + 1 → AreEarly ticks → AreEarly goal
    → (a n : ℕ) → a + n ≤ stages → All IsEditInRange (flat_map (stage_lines stages ticks goal) (range_with_len a n))
stages_in_range stages ticks goal few h k a zero within = λ i d lt. absurd (omega (arith, lt))
stages_in_range stages ticks goal few h k a (suc n) within =
    let short = paired_short (aim stages a) ticks goal in
    All-append IsEditInRange (stage_lines stages ticks goal a) (flat_map (stage_lines stages ticks goal) (range_with_len (a + 1) n))
    (stage_in_range (aims stages a ticks goal) (aims stages (a + 1) ticks goal) (omega (arith, short, few))
    (aims_early stages (a + 1) ticks goal (omega (arith, within)) h k))
    (stages_in_range stages ticks goal few h k (a + 1) n (omega (arith, within)))

pub in_range : (p : Performance) (goal : List ℕ) → IsWellFormed p → length goal ≤ MOST_BARS + 1
    → AreEarly (first_barlines p goal) → AreEarly (last_barlines p goal) → All IsEditInRange (script p goal)
in_range p goal formed few h k =
    let old = length-barlines p in
    let bars = formed.few_bars in
    let long = length-lengthened (last_bar p) (length goal) (barlines_of p) in
    let stages : ℕ = stage_count (pace p) (first_barlines p goal) (last_barlines p goal) in
    let middle : All IsEditInRange (all_stages stages (first_barlines p goal) (last_barlines p goal)) =
    stages_in_range stages (first_barlines p goal) (last_barlines p goal) (omega (arith, old, bars, long, few)) h k 0 stages (omega arith) in
    All-append IsEditInRange (replicate (length goal - length (barlines_of p)) AddBar)
    (all_stages stages (first_barlines p goal) (last_barlines p goal) ++ replicate (length (barlines_of p) - length goal) DropBar)
    (All-replicate IsEditInRange (length goal - length (barlines_of p)) AddBar tt)
    (All-append IsEditInRange (all_stages stages (first_barlines p goal) (last_barlines p goal)) (replicate (length (barlines_of p) - length goal) DropBar)
    middle (All-replicate IsEditInRange (length (barlines_of p) - length goal) DropBar tt))
