-- What is nearer, and the ranks of sums.
use Rattle.std.proofs.Common.{◌≡◌, ℕ, ◌+◌, ◌*◌, ◌<◌, ◌≤◌, ◌^◌, Bool, true, false, refl, sym, ap, subst, arith}
use Rattle.std.specs.Prelude.{Option, Some, None, if◌then◌else◌}
use Rattle.std.proofs.lemmas.Bool.Decides.{nat_tests}
use Rattle.rhythm_base.specs.declared.best.Best.{Best}
use Rattle.rhythm_base.specs.Paths.{IsRanked}
use Rattle.rhythm_base.specs.Ranked.{CarryMatrix, Sum, at, better, choice, number_of, pick, product_of, ranked, sum_before, sum_key, summed, table_of}
use Rattle.carry_matrix.specs.declared.choice.Choice.{Choice}
use Rattle.carry_matrix.specs.Choices.{IsLowSum, AreLowSums, choice_code}
use Rattle.carry_matrix.specs.LowSums.{HaveLowSums}
use Rattle.carry_matrix.specs.Rows.{cost_code, rank_code, row_code}
use Rattle.path_laws.proofs.Alike.{IsCount}
use Rattle.path_laws.proofs.Picks.{Held, pick_count, pick_held}
use Rattle.path_laws.proofs.ProductCosts.{sum_parts}
use Rattle.path_laws.proofs.Products.{five_same, grid_at}
use Rattle.carry_matrix.proofs.Rows.{low_rank}

-- what a sum leaves as it is
pub stays : (o : Option (ℕ × Sum)) (middle : ℕ) (left : Best) (right : Option Best) → IsLowSum o → ((y : Best) → right ≡ Some y → left.cost + y.cost < 2 ^ 62)
    → (choice_code o).cost ≤ left.cost + cost_code right → (left.cost + cost_code right ≡ (choice_code o).cost → (choice_code o).order ≤ 8 * left.rank + 7)
    → choice_code o ≡ choice_code (better sum_before o middle (summed (Some left) right))
stays o middle left None low small above after = refl
stays None middle left (Some y) low small above after =
    let under : left.cost + y.cost < 2 ^ 62 = small y refl in
    absurd (omega (arith, under, above))
stays (Some z) middle left (Some y) low small above after = go (sum_before (left.cost + y.cost, left.rank, y.rank) z.1) refl
  where
    go : (b : Bool) → sum_before (left.cost + y.cost, left.rank, y.rank) z.1 ≡ b → choice_code (Some z) ≡ choice_code (if b then Some (middle, (left.cost + y.cost, left.rank, y.rank)) else Some z)
    go false t = refl
    go true t = absurd (grind (arith, nat_tests, t, above, after))

-- what is picked among the sums of a row has a low sum
held_low : (a b : CarryMatrix) → HaveLowSums a b → IsRanked b → (from to n : ℕ) → to < 5 → n ≤ 5 → (o : Option (ℕ × Sum)) → Held (λ m. summed (at a from m) (at b m to)) n o → IsLowSum o
held_low a b small ranked from to n lt few None h = tt
held_low a b small ranked from to n lt few (Some x) h =
    let p = sum_parts (at a from x.0) (at b x.0 to) x.1 h.1 in
    let under : p.0.cost + p.1.cost < 2 ^ 62 = small from x.0 x.0 to p.0 p.1 p.2 p.3 in
    let rank : p.1.rank ≤ 5 = low_rank b ranked x.0 to p.1 (omega (arith, h.0, few)) lt p.3 in
    (subst (λ n. n < 2 ^ 62) (sym (ap (λ (s : Sum). s.0) p.4)) under, subst (λ n. n ≤ 5) (sym (ap (λ (s : Sum). s.2) p.4)) rank)

pub pick_low : (a b : CarryMatrix) → HaveLowSums a b → IsRanked b → (from n : ℕ) → n ≤ 5 → AreLowSums (λ to. pick sum_before (λ m. summed (at a from m) (at b m to)) n)
pick_low a b small ranked from n few = λ to lt. held_low a b small ranked from to n lt few _ (pick_held sum_before (λ m. summed (at a from m) (at b m to)) n)

pub choice_low : (a b : CarryMatrix) → HaveLowSums a b → IsRanked b → (from : ℕ) → AreLowSums (choice a b from)
unfolding choice
choice_low a b small ranked from = pick_low a b small ranked from 5 (omega arith)

-- the count in the middle that a choice stands for
pub middle_there : (o : Option (ℕ × Sum)) (c : Choice) → c ≡ choice_code o → c.cost < 2 ^ 62 → Some c.middle ≡ number_of o
middle_there None c is under = let none : c.cost ≡ 2 ^ 62 = ap (λ (c : Choice). c.cost) is in absurd (omega (arith, none, under))
middle_there (Some x) c is under = ap (λ (c : Choice). Some c.middle) is

pub middle_none : (o : Option (ℕ × Sum)) (c : Choice) → IsLowSum o → c ≡ choice_code o → 2 ^ 62 ≤ c.cost → None ≡ number_of o
middle_none None c low is above = refl
middle_none (Some x) c low is above = let cost : c.cost ≡ x.1.0 = ap (λ (c : Choice). c.cost) is in absurd (omega (arith, cost, above, low.0))

-- the row of the product
pub product_row : (a b : CarryMatrix) (from : ℕ) → from < 5 → row_code (λ to. ranked (λ n. sum_key (choice a b from n)) (sum_key (choice a b from to))) ≡ row_code (at (product_of a b) from)
unfolding product_of
product_row a b from lf = λ i. record {
  costs = five_same _ _ (λ to lt. ap cost_code (same to lt)) i;
  ranks = five_same _ _ (λ to lt. ap rank_code (same to lt)) i;
}
  where
    same : (to : ℕ) → to < 5 → ranked (λ n. sum_key (choice a b from n)) (sum_key (choice a b from to)) ≡ at (table_of (λ from to. sum_key (choice a b from to))) from to
    same to lt = sym (grid_at (λ from to. ranked (λ n. sum_key (choice a b from n)) (sum_key (choice a b from to))) from to lf lt)

low_middle : (o : Option (ℕ × Sum)) → IsCount (number_of o) → (choice_code o).middle < 5
low_middle None low = omega arith
low_middle (Some x) low = low

pub middle_low : (a b : CarryMatrix) (from to : ℕ) (c : Choice) → c ≡ choice_code (choice a b from to) → c.middle < 5
unfolding choice
middle_low a b from to c is =
    subst (λ n. n < 5) (sym (ap (λ (c : Choice). c.middle) is)) (low_middle _ (pick_count sum_before (λ m. summed (at a from m) (at b m to))))
