-- The table of a cell is one: a grammar and an input have no two.
use Rattle.std.proofs.Common.{◌≡◌, ℕ, zero, suc, ◌+◌, ◌<◌, ◌≤◌, List, [], ◌∷◌, ◌++◌, subst, refl, sym, ap, ◌∙◌, arith, append-nil, Option, Some, None}
use Rattle.std.specs.Prelude.{if◌then◌else◌}
use Rattle.std.specs.declared.cmp.Ordering.TheVariants.{Equal}
use Rattle.rhythm_base.specs.declared.best.Best.{Best}
use Rattle.rhythm_base.specs.BarInput.{BarInput}
use Rattle.rhythm_base.specs.Cells.{CellFits, cell_cost}
use Rattle.rhythm_base.specs.BarTables.{BarTable, IsEntry, IsLeastInCell, IsTable, cell_rank, is_lower, list_at, lower_in}
use Rattle.rhythm_base.specs.Forest.{Tree, more, none, preorder, preorder_of}
use Rattle.rhythm_base.specs.Least.{rank_cmp}
use Rattle.rhythm_base.specs.Ranked.{at, five, grid}
use Rattle.rhythm_base.specs.Grammar.{Grammar}
use Rattle.rhythm_base.specs.Trees.{are_trees, has_pin}
use Rattle.rhythm_base.proofs.TotalOrders.{both_above, list_equal, then_equal}
use Rattle.path_laws.proofs.KeyOrders.{keys_total}
use Rattle.tree_laws.proofs.Parsing.{one_parse}
use Rattle.tree_laws.proofs.Ranks.{both}
use Rattle.tree_laws.proofs.OneDerivations.{kids_of, label_of, not_less}

-- the least tree of a cell for two counts is one
one_least_tree : (g : Grammar) (k : BarInput) (t u : Tree) (from to : ℕ) → IsLeastInCell g k t from to → IsLeastInCell g k u from to → t ≡ u
one_least_tree g k t u from to x y =
    let up = not_less _ (x.first u y.fits) in
    let down = not_less _ (y.first t x.fits) in
    let same : rank_cmp (cell_rank g k t) (cell_rank g k u) ≡ Equal = both_above keys_total (cell_rank g k t) (cell_rank g k u) down up in
    let lists : preorder_of t ≡ preorder_of u = list_equal (preorder_of t) (preorder_of u) (then_equal _ _ same).1 in
    let p = both (are_trees g.rules ((k.resolution, k.symbol) ∷ []) (more t.rule t.kids none)) (has_pin k.pin t) x.fits.tree in
    let q = both (are_trees g.rules ((k.resolution, k.symbol) ∷ []) (more u.rule u.kids none)) (has_pin k.pin u) y.fits.tree in
    let whole : preorder (more t.rule t.kids none) ++ [] ≡ preorder (more u.rule u.kids none) ++ [] =
    ap (λ l. l ++ []) (append-nil (preorder_of t) ∙ lists ∙ sym (append-nil (preorder_of u))) in
    let one = one_parse g.rules ((k.resolution, k.symbol) ∷ []) (more t.rule t.kids none) (more u.rule u.kids none) [] [] p.0 q.0 whole in
    let rules_same : t.rule ≡ u.rule = ap label_of one.0 in
    let kids_same : t.kids ≡ u.kids = ap kids_of one.0 in
    λ i. record { rule = rules_same i; kids = kids_same i }

-- grids of the same entries are the same
fives : {A : Type 0} (f h : ℕ → A) → ((n : ℕ) → n < 5 → f n ≡ h n) → five f ≡ five h
fives f h same =
    let a = same 0 (omega arith) in
    let b = same 1 (omega arith) in
    let c = same 2 (omega arith) in
    let d = same 3 (omega arith) in
    let e = same 4 (omega arith) in
    λ i. a i ∷ b i ∷ c i ∷ d i ∷ e i ∷ []

grids : (f h : ℕ → ℕ → Option Best) → ((a b : ℕ) → a < 5 → b < 5 → f a b ≡ h a b) → grid f ≡ grid h
grids f h same = fives (λ a. five (f a)) (λ a. five (h a)) (λ a in_row. fives (f a) (h a) (λ b in_column. same a b in_row in_column))

module _ (g : Grammar) (v w : BarTable) (same_input : v.input ≡ w.input) where
  -- the lists of two entries are the same and their costs, and their ranks count the lists below one list
  abbrev Alike : ℕ → ℕ → Option Best → Option Best → Type 0
  Alike from to None None = list_at v from to ≡ list_at w from to
  Alike from to None (Some y) = ⊥
  Alike from to (Some x) None = ⊥
  Alike from to (Some x) (Some y) =
      (list_at v from to ≡ list_at w from to) × (x.cost ≡ y.cost)
      × ((list : List ℕ) × (x.rank ≡ lower_in v from list 5) × (y.rank ≡ lower_in w from list 5))

  alike : (from to : ℕ) (a b : Option Best) → IsEntry g v from to a → IsEntry g w from to b → Alike from to a b
  alike from to None None x y = x.0 ∙ sym y.0
  alike from to None (Some q) x y = x.1 y.0 (subst (λ k. CellFits g k y.0 from to) (sym same_input) y.1.fits)
  alike from to (Some p) None x y = y.1 x.0 (subst (λ k. CellFits g k x.0 from to) same_input x.1.fits)
  alike from to (Some p) (Some q) x y =
      let tree : x.0 ≡ y.0 = one_least_tree g w.input x.0 y.0 from to (subst (λ k. IsLeastInCell g k x.0 from to) same_input x.1) y.1 in (
        x.3 ∙ ap (λ t. Some (preorder_of t)) tree ∙ sym y.3,
        x.2 ∙ (λ i. cell_cost g (same_input i) (tree i)) ∙ sym y.2,
        (preorder_of x.0, x.4, y.4 ∙ ap (λ t. lower_in w from (preorder_of t) 5) (sym tree)),
      )

  lists_alike : (from to : ℕ) (a b : Option Best) → Alike from to a b → list_at v from to ≡ list_at w from to
  lists_alike from to None None h = h
  lists_alike from to None (Some q) h = absurd h
  lists_alike from to (Some p) None h = absurd h
  lists_alike from to (Some p) (Some q) h = h.0

  module _ (x : IsTable g v) (y : IsTable g w) where
    both_alike : (from to : ℕ) → from < 5 → to < 5 → Alike from to (at v.matrix from to) (at w.matrix from to)
    both_alike from to f t = alike from to (at v.matrix from to) (at w.matrix from to) (x.entries from to f t) (y.entries from to f t)

    pub lists_same : (from to : ℕ) → from < 5 → to < 5 → list_at v from to ≡ list_at w from to
    lists_same from to f t = lists_alike from to (at v.matrix from to) (at w.matrix from to) (both_alike from to f t)

    lower_same : (from : ℕ) (list : List ℕ) (n : ℕ) → from < 5 → n ≤ 5 → lower_in v from list n ≡ lower_in w from list n
    lower_same from list zero f le = refl
    lower_same from list (suc n) f le =
        let here = lists_same from n f (omega (arith, le)) in
        let rest = lower_same from list n f (omega (arith, le)) in
        λ i. (if is_lower (here i) list then 1 else 0) + rest i

    entries_alike : (from to : ℕ) (a b : Option Best) → from < 5 → Alike from to a b → a ≡ b
    entries_alike from to None None f h = refl
    entries_alike from to None (Some q) f h = absurd h
    entries_alike from to (Some p) None f h = absurd h
    entries_alike from to (Some p) (Some q) f h =
        let ranks : p.rank ≡ q.rank = h.2.1 ∙ lower_same from h.2.0 5 f (omega arith) ∙ sym h.2.2 in
        λ i. Some (record { cost = h.1 i; rank = ranks i })

    entries_same : (from to : ℕ) → from < 5 → to < 5 → at v.matrix from to ≡ at w.matrix from to
    entries_same from to f t = entries_alike from to (at v.matrix from to) (at w.matrix from to) f (both_alike from to f t)

    pub matrices_same : v.matrix ≡ w.matrix
    matrices_same = x.ranked.shape ∙ grids (at v.matrix) (at w.matrix) entries_same ∙ sym y.ranked.shape
