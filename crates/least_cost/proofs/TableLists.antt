-- The rule lists of a table.
use Rattle.std.proofs.Common.{◌≡◌, ℕ, ◌+◌, ◌<◌, List, [], ◌∷◌, get_or, length, length-append, refl, sym, ap, ◌∙◌, subst, arith}
use Rattle.std.specs.Prelude.{Option, Some, None}
use Rattle.rhythm_base.specs.BarInput.{BarInput}
use Rattle.rhythm_base.specs.Grammar.{Grammar}
use Rattle.rhythm_base.specs.Ranked.{CarryMatrix, Key, Keys, at, five, ranked, table_of}
use Rattle.rhythm_base.specs.Shape.{Shape}
use Rattle.tree_laws.specs.Forests.{AreLeast, one_shape}
use Rattle.path_laws.proofs.Products.{five_at, grid_at}
use Rattle.row_laws.specs.Grounds.{ground_of}
use Rattle.grammar_plan.specs.Drafts.{IsLonger}
use Rattle.grammar_plan.specs.Plans.{between}
use Rattle.bar_trees.specs.BarTrees.{AreBarTrees}
use Rattle.bar_trees.specs.WrittenLists.{AreListsWritten, IsListAt, IsListOf, IsPlaced, list_end, list_start, list_of, list_number}
use Rattle.bar_trees.specs.declared.trees.BarTrees.{BarTrees}
use Rattle.bar_trees.proofs.ListEnds.{between-more}
use Rattle.least_cost.specs.Tables.{AreAllPlaced, AreCellTrees, list_where, lists_of}

abbrev pub key_list : Option Key → Option (List ℕ)
key_list None = None
key_list (Some k) = Some k.1

-- the list for numbers carried in and out
pub list-where : (m : CarryMatrix) (rules ends : List ℕ) (a b : ℕ) → a < 5 → b < 5 → get_or (get_or (lists_of m rules ends) a []) b None ≡ list_where (at m a b) (list_of rules ends (list_number a b))
list-where m rules ends a b la lb =
    ap (λ r. get_or r b None) (five_at (λ a. five (λ b. list_where (at m a b) (list_of rules ends (list_number a b)))) [] a la) ∙ five_at (λ b. list_where (at m a b) (list_of rules ends (list_number a b))) None b lb

-- rules may follow
module _ (rules kept ends : List ℕ) (longer : IsLonger rules kept) where
  pub list-kept : (n : ℕ) → IsPlaced rules ends n → list_of kept ends n ≡ list_of rules ends n
  list-kept n placed = ap (λ l. between l (list_start ends n) (list_end ends n)) longer.1 ∙ between-more rules longer.0 (list_start ends n) (list_end ends n) placed.0 placed.1

  pub placed-kept : AreAllPlaced rules ends → AreAllPlaced kept ends
  placed-kept placed n few =
      let long : length kept ≡ length rules + length longer.0 = ap length longer.1 ∙ length-append rules longer.0 in
      let order = (placed n few).0 in
      let within = (placed n few).1 in
      (order, omega (arith, long, within))

-- it is that of the key
pub lists-are : (m : CarryMatrix) (keys : Keys) (rules kept ends : List ℕ) → m ≡ table_of keys → AreListsWritten (IsListAt keys) rules ends 25 → IsLonger rules kept
    → (a b : ℕ) → a < 5 → b < 5 → get_or (get_or (lists_of m kept ends) a []) b None ≡ key_list (keys a b)
lists-are m keys rules kept ends is h longer a b la lb =
    let entry : at m a b ≡ ranked (keys a) (keys a b) = ap (λ m. at m a b) is ∙ grid_at (λ a b. ranked (keys a) (keys a b)) a b la lb in
    let few : list_number a b < 25 = omega (arith, la, lb) in
    let same = list-kept rules kept ends longer (list_number a b) (h.placed (list_number a b) few) in
    list-where m kept ends a b la lb ∙ ap (λ e. list_where e (list_of kept ends (list_number a b))) entry ∙ ap (list_where (ranked (keys a) (keys a b))) same
    ∙ own (keys a b) (h.lists (list_number a b) few a b lb refl)
  where
    own : (u : Option Key) → IsListOf u (list_of rules ends (list_number a b)) → list_where (ranked (keys a) u) (list_of rules ends (list_number a b)) ≡ key_list u
    own None held = refl
    own (Some k) held = ap Some held

-- the trees of a bar without a pin
pub cell-trees : (g : Grammar) (k : BarInput) (trees : BarTrees) → k.pin ≡ None → AreBarTrees g k trees → AreCellTrees g k trees.bests.rows trees.lists.rules.items trees.lists.ends
cell-trees g k trees none h =
    let P : Option Shape → Type 0 = λ o. AreLeast (ground_of g k) (one_shape o) 0 ((k.resolution, k.symbol) ∷ []) h.keys in
    record { keys = h.keys; least = subst P (sym none) h.least; matrix = h.bests; lists = h.lists }
