-- What is asked for of a bar is enough, and low.
use Rattle.std.proofs.Common.{◌≡◌, ℕ, ◌<◌, ◌≤◌, ◌^◌, Bool, true, false, List, [], ◌∷◌, get_or, refl, sym, ap, ◌∙◌, arith, inl, inr}
use Rattle.std.specs.Prelude.{All, Option, Some, None, is_some}
use Rattle.std.proofs.lemmas.Bool.{cases_lt}
use Rattle.std.proofs.lemmas.List.{get_or_past}
use Rattle.std.proofs.lemmas.List.Elements.{All-nil}
use Rattle.bar_pool.specs.Costs.{AreAllCosts}
use Rattle.bar_pool.specs.declared.order.AskedCell.{AskedCell}
use Rattle.chain_bars.specs.Tower.{best_cost}
use Rattle.least_cost.specs.Costs.{AreCostsOf, asked_cost, asked_costs}
use Rattle.least_cost.specs.declared.costs.BarCosts.{BarCosts}
use Rattle.rhythm_base.specs.BarInput.{BarInput}
use Rattle.rhythm_base.specs.BarTables.{BarTable, IsEntry}
use Rattle.rhythm_base.specs.Grammar.{Grammar}
use Rattle.rhythm_base.specs.Ranked.{CarryMatrix, at, five}
use Rattle.rhythm_base.specs.declared.best.Best.{Best}
use Rattle.rhythm_base.proofs.OrderedLists.{all_cons}
use Rattle.path_laws.proofs.Products.{five_at, five_same}
use Rattle.barline_follow.specs.Costs.{AreLowCosts, asked_after, bar_cost_at, costs_with_bar, costs_with, head_cost_at, least_below, least_of_five, sum}
use Rattle.barline_follow.proofs.CostLemmas.{least_same}

-- one of the costs that are asked for
pub one_asked : (m : CarryMatrix) (asked : List Bool) (from to : ℕ) → from < 5 → to < 5 → bar_cost_at (asked_costs m asked) from to ≡ asked_cost (get_or asked from false) (at m from to)
unfolding asked_costs
one_asked m asked from to lf lt =
    ap (λ row. get_or row to None) (five_at (λ f. five (λ t. asked_cost (get_or asked f false) (at m f t))) [] from lf)
    ∙ five_at (λ t. asked_cost (get_or asked from false) (at m from t)) None to lt

-- ---- enough: where nothing is asked for, nothing is added to

same_sum : (head : Option ℕ) (best : Option Best) → sum head (asked_cost (is_some head) best) ≡ sum head (best_cost best)
same_sum None best = refl
same_sum (Some c) best = refl

module _ (costs : List (Option ℕ)) (m : CarryMatrix) where
  one_sum : (from to : ℕ) → from < 5 → to < 5 → sum (head_cost_at costs from) (bar_cost_at (asked_costs m (asked_after costs)) from to) ≡ sum (head_cost_at costs from) (best_cost (at m from to))
  one_sum from to lf lt =
      ap (sum (head_cost_at costs from)) (one_asked m (asked_after costs) from to lf lt ∙ ap (λ t. asked_cost t (at m from to)) (five_at (λ n. is_some (head_cost_at costs n)) false from lf))
      ∙ same_sum (head_cost_at costs from) (at m from to)

  pub asked_enough : costs_with_bar costs (asked_costs m (asked_after costs)) ≡ costs_with costs m
  unfolding least_of_five
  asked_enough =
      five_same (λ to. least_below (λ from. sum (head_cost_at costs from) (bar_cost_at (asked_costs m (asked_after costs)) from to)) 5)
      (λ to. least_below (λ from. sum (head_cost_at costs from) (best_cost (at m from to))) 5)
      (λ to lt. least_same (λ from. sum (head_cost_at costs from) (bar_cost_at (asked_costs m (asked_after costs)) from to))
      (λ from. sum (head_cost_at costs from) (best_cost (at m from to))) 5 (λ from lf. one_sum from to lf lt))

-- ---- low

low_entry : (g : Grammar) (table : BarTable) (from to : ℕ) (t : Bool) (best : Option Best) (c : ℕ) → IsEntry g table from to best → asked_cost t best ≡ Some c → c ≤ 2 ^ 52
low_entry g table from to true None c h is = absurd (cc)
low_entry g table from to true (Some best) c (tree, least, own, list, rank, low) is =
    let same : best.cost ≡ c = cc in
    let cheap : best.cost ≤ 500000000000 = low in
    omega (arith, same, cheap)
low_entry g table from to false best c h is = absurd (cc)

low_bar : (g : Grammar) (k : BarInput) (asked : List Bool) (costs : List (List (Option ℕ))) → AreCostsOf g k asked costs → AreLowCosts costs
unfolding asked_costs
low_bar g k asked costs h from to c is = elim (cases_lt from 5) [
  | inl lf ↦
      elim (cases_lt to 5) [
        | inl lt ↦
            let own : asked_cost (get_or asked from false) (at h.table.matrix from to) ≡ Some c = sym (one_asked h.table.matrix asked from to lf lt) ∙ sym (ap (λ b. bar_cost_at b from to) h.costs_are) ∙ is in
            low_entry g h.table from to (get_or asked from false) (at h.table.matrix from to) c (h.is.entries from to lf lt) own
        | inr ht ↦ absurd (past_to from to lf ht c (sym (ap (λ b. bar_cost_at b from to) h.costs_are) ∙ is))
      ]
  | inr hf ↦ absurd (past_from from to hf c (sym (ap (λ b. bar_cost_at b from to) h.costs_are) ∙ is))
]
  where
    past_to : (from to : ℕ) → from < 5 → 5 ≤ to → (c : ℕ) → bar_cost_at (asked_costs h.table.matrix asked) from to ≡ Some c → ⊥
    past_to from to lf ht c is =
        let row : ℕ → Option ℕ = λ t. asked_cost (get_or asked from false) (at h.table.matrix from t) in
        let none : get_or (five row) to None ≡ None = get_or_past (five row) to None ht in
        let no : None ≡ Some c = sym none ∙ sym (ap (λ r. get_or r to None) (five_at (λ f. five (λ t. asked_cost (get_or asked f false) (at h.table.matrix f t))) [] from lf)) ∙ is in
        absurd (cc)

    past_from : (from to : ℕ) → 5 ≤ from → (c : ℕ) → bar_cost_at (asked_costs h.table.matrix asked) from to ≡ Some c → ⊥
    past_from from to hf c is =
        let none : get_or (five (λ f. five (λ t. asked_cost (get_or asked f false) (at h.table.matrix f t)))) from [] ≡ [] = get_or_past (five (λ f. five (λ t. asked_cost (get_or asked f false) (at h.table.matrix f t)))) from [] hf in
        let no : get_or {A = Option ℕ} [] to None ≡ Some c = sym (ap (λ r. get_or r to None) none) ∙ is in
        absurd (cc)

pub all_low_bars : (g : Grammar) (cells : List AskedCell) (bars : List BarCosts) → AreAllCosts g cells bars → All (λ bar. AreLowCosts bar.costs) bars
all_low_bars g [] bars h = subst_nil bars h
  where
    subst_nil : (bars : List BarCosts) → bars ≡ [] → All (λ bar. AreLowCosts bar.costs) bars
    subst_nil [] e = All-nil (λ (bar : BarCosts). AreLowCosts bar.costs)
    subst_nil (b ∷ bars) e = absurd (cc)
all_low_bars g (cell ∷ cells) [] h = absurd h
all_low_bars g (cell ∷ cells) (bar ∷ bars) h = all_cons (λ (b : BarCosts). AreLowCosts b.costs) bar bars (low_bar g cell.input cell.asked bar.costs h.0) (all_low_bars g cells bars h.1)
