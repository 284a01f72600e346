-- The costs that are asked for, of the least keys of a cell.
use Rattle.std.proofs.Common.{◌≡◌, ℕ, ◌<◌, Bool, true, false, List, [], ◌∷◌, get_or, refl, sym, ap, ◌∙◌, subst}
use Rattle.std.specs.Prelude.{Option, None}
use Rattle.chain_bars.specs.Tower.{best_cost, cost_of}
use Rattle.chain_bars.proofs.Towers.{cost_ranked}
use Rattle.rhythm_base.specs.BarInput.{BarInput}
use Rattle.rhythm_base.specs.Grammar.{Grammar}
use Rattle.rhythm_base.specs.Ranked.{CarryMatrix, Key, Keys, at, five, ranked, table_of}
use Rattle.rhythm_base.specs.Shape.{Shape}
use Rattle.rhythm_base.specs.declared.best.Best.{Best}
use Rattle.tree_laws.specs.Forests.{AreLeast, IsForestKey, one_shape}
use Rattle.path_laws.specs.Tables.{IsLeastKey}
use Rattle.path_laws.proofs.LeastKeys.{IsLeast-one}
use Rattle.path_laws.proofs.Products.{five_at, five_same, grid_at}
use Rattle.row_laws.specs.Grounds.{IsReady, ground_of}
use Rattle.bar_trees.specs.BarTrees.{AreBarTrees}
use Rattle.bar_trees.specs.declared.trees.BarTrees.{BarTrees}
use Rattle.best_trees.specs.BarTrees.{ArePinnedTrees}
use Rattle.least_rows.specs.Roots.{AreAskedRows, AreRootBests, IsAskedRow}
use Rattle.least_cost.specs.Costs.{AreCostsOf, asked_cost, asked_costs}
use Rattle.least_cost.proofs.Tables.{is_table, keys, keys_least, table}

module _ (g : Grammar) (k : BarInput) (ready : IsReady g k) where
  -- the entry costs what the least tree does for these counts
  abbrev pub HasLeastCost : ℕ → ℕ → Option Best → Type 0
  HasLeastCost a b best =
      (o : Option Key) × IsLeastKey (IsForestKey (ground_of g k) (one_shape k.pin) 0 ((k.resolution, k.symbol) ∷ []) a b) o × (best_cost best ≡ cost_of o)

  same-cost : (a b : ℕ) → a < 5 → b < 5 → (best : Option Best) → HasLeastCost a b best → best_cost best ≡ best_cost (at (table g k ready).matrix a b)
  same-cost a b la lb best (o, least, is) =
      let S = IsForestKey (ground_of g k) (one_shape k.pin) 0 ((k.resolution, k.symbol) ∷ []) a b in
      let one : o ≡ keys g k ready a b = IsLeast-one S o (keys g k ready a b) least (keys_least g k ready a b la lb) in
      is ∙ ap cost_of one ∙ sym (cost_ranked (keys g k ready a) (keys g k ready a b))
      ∙ ap best_cost (sym (grid_at (λ a b. ranked (keys g k ready a) (keys g k ready a b)) a b la lb))

  -- where the entries that are asked for do, these are the costs of the cell
  pub costs-are : (rows : CarryMatrix) (asked : List Bool) → ((a b : ℕ) → a < 5 → b < 5 → get_or asked a false ≡ true → HasLeastCost a b (at rows a b)) → AreCostsOf g k asked (asked_costs rows asked)
  unfolding asked_costs
  costs-are rows asked h = record {
    table = table g k ready;
    is = is_table g k ready;
    of_input = refl;
    costs_are = all;
  }
    where
      same : (a b : ℕ) → a < 5 → b < 5 → (t : Bool) → get_or asked a false ≡ t → asked_cost t (at rows a b) ≡ asked_cost t (at (table g k ready).matrix a b)
      same a b la lb true is = same-cost a b la lb (at rows a b) (h a b la lb is)
      same a b la lb false is = refl

      own : (m : CarryMatrix) → ℕ → ℕ → Option ℕ
      own m a b = asked_cost (get_or asked a false) (at m a b)

      all : asked_costs rows asked ≡ asked_costs (table g k ready).matrix asked
      all =
          five_same (λ a. five (own rows a)) (λ a. five (own (table g k ready).matrix a))
          (λ a la. five_same (own rows a) (own (table g k ready).matrix a) (λ b lb. same a b la lb (get_or asked a false) refl))

  -- all keys
  of_keys : (ks : Keys) → AreLeast (ground_of g k) (one_shape k.pin) 0 ((k.resolution, k.symbol) ∷ []) ks → (rows : CarryMatrix) → rows ≡ table_of ks → (a b : ℕ) → a < 5 → b < 5 → HasLeastCost a b (at rows a b)
  of_keys ks least rows is a b la lb =
      (ks a b, least a b la lb, ap best_cost (ap (λ m. at m a b) is ∙ grid_at (λ a b. ranked (ks a) (ks a b)) a b la lb) ∙ cost_ranked (ks a) (ks a b))

  pub pinned-costs : (trees : BarTrees) → ArePinnedTrees g k trees → (asked : List Bool) → AreCostsOf g k asked (asked_costs trees.bests.rows asked)
  pinned-costs trees h asked = costs-are trees.bests.rows asked (λ a b la lb on. of_keys h.keys h.least trees.bests.rows h.bests a b la lb)

  module _ (none : k.pin ≡ None) where
    pub quiet-costs : (trees : BarTrees) → AreBarTrees g k trees → (asked : List Bool) → AreCostsOf g k asked (asked_costs trees.bests.rows asked)
    quiet-costs trees h asked =
        let P : Option Shape → Type 0 = λ o. AreLeast (ground_of g k) (one_shape o) 0 ((k.resolution, k.symbol) ∷ []) h.keys in
        costs-are trees.bests.rows asked (λ a b la lb on. of_keys h.keys (subst P (sym none) h.least) trees.bests.rows h.bests a b la lb)

    pub rows-costs : (rows : CarryMatrix) (asked : List Bool) → AreAskedRows g k asked 5 rows → AreCostsOf g k asked (asked_costs rows asked)
    rows-costs rows asked h = costs-are rows asked own
      where
        of_row : (a b : ℕ) → b < 5 → (row : List (Option Best)) → AreRootBests g k a row → HasLeastCost a b (get_or row b None)
        of_row a b lb row r =
            let P : Option Shape → Type 0 = λ o. IsLeastKey (IsForestKey (ground_of g k) (one_shape o) 0 ((k.resolution, k.symbol) ∷ []) a b) (r.keys b) in
            (r.keys b, subst P (sym none) (r.least b lb), ap best_cost (ap (λ row. get_or row b None) r.each ∙ five_at (λ b. ranked r.keys (r.keys b)) None b lb) ∙ cost_ranked r.keys (r.keys b))

        own : (a b : ℕ) → a < 5 → b < 5 → get_or asked a false ≡ true → HasLeastCost a b (at rows a b)
        own a b la lb on = of_row a b lb (get_or rows a []) (subst (λ t. IsAskedRow g k a t (get_or rows a [])) on (h a la))
