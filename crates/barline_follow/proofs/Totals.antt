-- What the voices cost together, one voice after another.
use Rattle.std.proofs.Common.{◌≡◌, ℕ, ◌+◌, ◌<◌, ◌≤◌, ◌^◌, Bool, true, false, List, length, drop, get_or, refl, ap, ◌∙◌, arith}
use Rattle.std.specs.Prelude.{Option, Some, None}
use Rattle.std.proofs.lemmas.List.{drop_more}
use Rattle.barline_follow.specs.declared.heads.Heads.{Heads}
use Rattle.barline_follow.specs.Costs.{AreLowHeads, head_cost_at, least_of_five, own_cost, sum, total}
use Rattle.barline_follow.proofs.CostLemmas.{least_is}

pub own_low : (is_closed : Bool) (heads : Heads) (c : ℕ) → AreLowHeads heads → own_cost is_closed heads ≡ Some c → c ≤ 2 ^ 52
unfolding least_of_five
own_low true heads c low is = low 0 c is
own_low false heads c low is = let found = least_is (head_cost_at heads.costs) 5 c is in low found.0 c found.2

sum_on : (s c : ℕ) (o p : Option ℕ) → p ≡ Some c → sum (Some s) (sum p o) ≡ sum (Some (s + c)) o
sum_on s c o p is = ap (λ q. sum (Some s) (sum q o)) is ∙ by o
  where
    by : (o : Option ℕ) → sum (Some s) (sum (Some c) o) ≡ sum (Some (s + c)) o
    by None = refl
    by (Some t) = let same : s + (c + t) ≡ s + c + t = omega arith in ap Some same

module _ (is_closed : Bool) (voices : List Heads) (i : ℕ) (d : Heads) (lt : i < length voices) where
  pub total_more : (s c : ℕ) → own_cost is_closed (get_or voices i d) ≡ Some c
      → sum (Some s) (total is_closed (drop i voices)) ≡ sum (Some (s + c)) (total is_closed (drop (i + 1) voices))
  total_more s c is =
      ap (λ l. sum (Some s) (total is_closed l)) (drop_more voices i d lt)
      ∙ sum_on s c (total is_closed (drop (i + 1) voices)) (own_cost is_closed (get_or voices i d)) is

  pub total_none : (s : ℕ) → own_cost is_closed (get_or voices i d) ≡ None → sum (Some s) (total is_closed (drop i voices)) ≡ None
  total_none s is =
      ap (λ l. sum (Some s) (total is_closed l)) (drop_more voices i d lt)
      ∙ ap (λ o. sum (Some s) (sum o (total is_closed (drop (i + 1) voices)))) is
