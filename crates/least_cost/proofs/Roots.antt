-- The least keys of the whole bar are its table.
use Rattle.std.proofs.Common.{◌≡◌, ℕ, zero, suc, ◌<◌, ◌≤◌, ◌+◌, ◌^◌, ◌&&◌, false, List, [], ◌∷◌, get_or, refl, sym, ap, ap₂, ◌∙◌, subst, arith, append-nil, inl, inr}
use Rattle.std.specs.Prelude.{Option, Some, None, if◌then◌else◌}
use Rattle.std.proofs.lemmas.Bool.{cases_lt}
use Rattle.std.proofs.lemmas.List.{get_or_past}
use Rattle.rhythm_base.specs.declared.best.Best.{Best}
use Rattle.rhythm_base.specs.BarInput.{BarInput}
use Rattle.rhythm_base.specs.Cells.{CellFits, bar_of, cell_cost, leaves_in}
use Rattle.rhythm_base.specs.BarTables.{BarTable, IsEntry, IsLeastInCell, IsTable, cell_rank, is_lower, list_at, lower_in}
use Rattle.rhythm_base.specs.Cost.{charges, weights}
use Rattle.rhythm_base.specs.Forest.{Tree, none, more, preorder, preorder_of}
use Rattle.rhythm_base.specs.Least.{rank_cmp}
use Rattle.rhythm_base.specs.Shape.{Shape}
use Rattle.rhythm_base.specs.Paths.{AreLow, IsRanked}
use Rattle.rhythm_base.specs.Ranked.{Key, Keys, at, count_under, five, is_before, is_under, ranked, table_of}
use Rattle.rhythm_base.specs.Grammar.{Grammar}
use Rattle.rhythm_base.specs.Leaves.{in_bar}
use Rattle.rhythm_base.specs.Trees.{are_trees, has_pin, leaves, leaves_of}
use Rattle.tree_laws.specs.Forests.{AreLeast, IsForestKey, StandsInBar, forest_cost, has_shapes, one_shape}
use Rattle.tree_laws.specs.Places.{FitsAt}
use Rattle.path_laws.specs.Tables.{IsLeastKey}
use Rattle.tree_laws.specs.Voices.{HoldsChords}
use Rattle.rhythm_base.proofs.TotalOrders.{never_less}
use Rattle.tree_laws.proofs.ForestLemmas.{least-rows_apart}
use Rattle.path_laws.proofs.PathTables.{table_of_ranked}
use Rattle.tree_laws.proofs.Places.{at-cell, cell-at}
use Rattle.path_laws.proofs.ProductCosts.{grid_entry}
use Rattle.path_laws.proofs.Products.{five_at, grid_at}
use Rattle.tree_laws.proofs.Ranks.{both}
use Rattle.row_laws.specs.Grounds.{IsReady, ground_of}
use Rattle.row_laws.proofs.Bounds.{stands-cheap}
use Rattle.row_laws.proofs.Grounds.{bounds, grounded, onsets_inside}
use Rattle.row_laws.proofs.RuleKeys.{single_tree, top_shape}
use Rattle.least_cost.proofs.TableLists.{key_list}

module _ (g : Grammar) (k : BarInput) (ready : IsReady g k) where
  holds : HoldsChords k
  holds = record { long = ready.cell.some_tick; rise = ready.cell.rising; below = onsets_inside k.length k.chords ready.cell.chords }

  same_pin : (pin : Option Shape) (t : Tree) → has_shapes (one_shape pin) (more t.rule t.kids none) ≡ has_pin pin t
  same_pin None t = refl
  same_pin (Some x) t = top_shape (Some x) t.rule t.kids

  abbrev root : List (ℕ × ℕ)
  root = (k.resolution, k.symbol) ∷ []

  -- a tree fits the cell exactly where it stands in it
  stands : (t : Tree) (a b : ℕ) → CellFits g k t a b → StandsInBar (ground_of g k) (one_shape k.pin) 0 root (more t.rule t.kids none) a b
  stands t a b fits =
      let own = both (are_trees g.rules ((k.resolution, k.symbol) ∷ []) (more t.rule t.kids none)) _ fits.tree in
      record {
        trees = own.0;
        shaped = same_pin k.pin t ∙ own.1;
        fits = subst (λ r. FitsAt r (bar_of k) k.chords k.before 0 (leaves_of g.rules k.resolution k.symbol t) a b) (sym ready.units) (cell-at g k t a b ready.cell.some_unit holds fits);
      }

  fits_cell : (t : Tree) (a b : ℕ) → StandsInBar (ground_of g k) (one_shape k.pin) 0 root (more t.rule t.kids none) a b → CellFits g k t a b
  fits_cell t a b h =
      at-cell g k t a b ready.cell.some_unit holds (ap₂ ◌&&◌ h.trees (sym (same_pin k.pin t) ∙ h.shaped))
      (subst (λ r. FitsAt r (bar_of k) k.chords k.before 0 (leaves_of g.rules k.resolution k.symbol t) a b) ready.units h.fits)

  rank_is : (t : Tree) → ◌≡◌ {A = Key} (weights g (preorder (more t.rule t.kids none)) + charges g (leaves_in g k t) k.chords, preorder (more t.rule t.kids none)) (cell_rank g k t)
  rank_is t =
      let P : List ℕ → Key = λ l. (weights g l + charges g (leaves_in g k t) k.chords, l) in
      ap P (append-nil (preorder_of t))

  cell_key : (t : Tree) (a b : ℕ) → CellFits g k t a b → IsForestKey (ground_of g k) (one_shape k.pin) 0 root a b (cell_rank g k t)
  cell_key t a b fits = (more t.rule t.kids none, stands t a b fits, sym (rank_is t))

  least_tree : (a b : ℕ) (key : Key) → IsLeastKey (IsForestKey (ground_of g k) (one_shape k.pin) 0 root a b) (Some key) → (u : Tree) × IsLeastInCell g k u a b × (key ≡ cell_rank g k u)
  least_tree a b key h =
      let one = single_tree g.rules (k.resolution, k.symbol) h.0.0 h.0.1.trees in
      let u : Tree = record { rule = one.0; kids = one.1 } in
      let own : StandsInBar (ground_of g k) (one_shape k.pin) 0 root (more one.0 one.1 none) a b = subst (λ f. StandsInBar (ground_of g k) (one_shape k.pin) 0 root f a b) one.2 h.0.1 in
      let is : key ≡ cell_rank g k u = h.0.2 ∙ ap (λ f. (weights g (preorder f) + charges g (in_bar (bar_of k) (leaves g.rules 0 root f)) k.chords, preorder f)) one.2 ∙ rank_is u in (
        u,
        record {
          fits = fits_cell u a b own;
          first = λ v fits. never_less (rank_cmp (cell_rank g k v) (cell_rank g k u)) (subst (λ q. is_before (cell_rank g k v) q ≡ false) is (h.1 (cell_rank g k v) (cell_key v a b fits)));
        },
        is,
      )

  key_cheap : (a b : ℕ) (key : Key) → IsLeastKey (IsForestKey (ground_of g k) (one_shape k.pin) 0 root a b) (Some key) → key.0 ≤ 3000000000
  key_cheap a b key h =
      let cost : key.0 ≡ forest_cost (ground_of g k) 0 root h.0.0 = ap (λ (q : Key). q.0) h.0.2 in
      let units : g.resolution ≡ k.resolution = ready.units in
      let low = stands-cheap (ground_of g k) (grounded g k ready) (bounds g k ready) (one_shape k.pin) 0 root h.0.0 a b (ready.cell.some_unit, tt) (omega (arith, units)) h.0.1 in
      omega (arith, cost, low)

  -- the least keys of the whole bar
  module _ (keys : Keys) (least : AreLeast (ground_of g k) (one_shape k.pin) 0 root keys) where
    pub root-ranked : IsRanked (table_of keys)
    root-ranked = table_of_ranked keys (least-rows_apart (ground_of g k) (one_shape k.pin) 0 root keys least)

    pub root-low : AreLow (table_of keys)
    root-low i j e is = elim (cases_lt i 5) [
      | inl li ↦
          elim (cases_lt j 5) [
            | inl lj ↦ of_key li lj (keys i j) (least i j li lj) (grid_entry (λ a b. ranked (keys a) (keys a b)) i j e is)
            | inr hj ↦
                let row : at (table_of keys) i j ≡ get_or (five (λ b. ranked (keys i) (keys i b))) j None = ap (λ r. get_or r j None) (five_at (λ a. five (λ b. ranked (keys a) (keys a b))) [] i li) in
                let past : get_or (five (λ b. ranked (keys i) (keys i b))) j None ≡ None = get_or_past (five (λ b. ranked (keys i) (keys i b))) j None hj in
                let no_entry : None ≡ Some e = sym past ∙ sym row ∙ is in
                absurd (cc)
          ]
      | inr hi ↦
          let row : at (table_of keys) i j ≡ get_or {A = Option Best} [] j None = ap (λ r. get_or r j None) (get_or_past (five (λ a. five (λ b. ranked (keys a) (keys a b)))) i [] hi) in
          let no_entry : None ≡ Some e = sym row ∙ is in
          absurd (cc)
    ]
      where
        of_key : i < 5 → j < 5 → (o : Option Key) → IsLeastKey (IsForestKey (ground_of g k) (one_shape k.pin) 0 root i j) o → ranked (keys i) o ≡ Some e → e.cost < 2 ^ 62
        of_key li lj None h at = absurd (cc)
        of_key li lj (Some key) h at =
            let low = key_cheap i j key h in
            let own : record { cost = key.0; rank = count_under (keys i) key.1 5 } ≡ e = cc in
            let cost : key.0 ≡ e.cost = ap (λ (b : Best). b.cost) own in
            omega (arith, low, cost)

    module _ (table : BarTable) (matrix : table.matrix ≡ table_of keys) (lists : (a b : ℕ) → a < 5 → b < 5 → list_at table a b ≡ key_list (keys a b)) where
      list_is : (u : Option Key) (x : List ℕ) → is_lower (key_list u) x ≡ is_under u x
      list_is None x = refl
      list_is (Some k) x = refl

      lower-is : (a : ℕ) (x : List ℕ) (n : ℕ) → a < 5 → n ≤ 5 → lower_in table a x n ≡ count_under (keys a) x n
      lower-is a x zero la ln = refl
      lower-is a x (suc n) la ln =
          let here : is_lower (list_at table a n) x ≡ is_under (keys a n) x = ap (λ o. is_lower o x) (lists a n la (omega arith)) ∙ list_is (keys a n) x in
          λ i. (if here i then 1 else 0) + lower-is a x n la (omega arith) i

      entry-is : (a b : ℕ) → a < 5 → b < 5 → (u : Option Key) → keys a b ≡ u → IsLeastKey (IsForestKey (ground_of g k) (one_shape k.pin) 0 root a b) u → IsEntry g (record table { input = k }) a b (ranked (keys a) u)
      entry-is a b la lb None at h = (lists a b la lb ∙ ap key_list at, λ v fits. h (cell_rank g k v) (cell_key v a b fits))
      entry-is a b la lb (Some key) at h =
          let found = least_tree a b key h in
          let cost : key.0 ≡ cell_cost g k found.0 = ap (λ (q : Key). q.0) found.2 in
          let list : key.1 ≡ preorder_of found.0 = ap (λ (q : Key). q.1) found.2 in
          let cheap = key_cheap a b key h in (
            found.0,
            found.1,
            cost,
            lists a b la lb ∙ ap key_list at ∙ ap Some list,
            sym (lower-is a key.1 5 la (omega arith)) ∙ ap (λ l. lower_in table a l 5) list,
            at_most cheap,
          )
        where
          at_most : key.0 ≤ 3000000000 → key.0 ≤ 500000000000
          at_most low = omega (arith, low)

      -- the table of the keys
      pub root-table : IsTable g (record table { input = k })
      root-table = record {
        ranked = subst IsRanked (sym matrix) root-ranked;
        entries = λ a b la lb.
            let is : at table.matrix a b ≡ ranked (keys a) (keys a b) = ap (λ m. at m a b) matrix ∙ grid_at (λ a b. ranked (keys a) (keys a b)) a b la lb in
            subst (IsEntry g (record table { input = k }) a b) (sym is) (entry-is a b la lb (keys a b) refl (least a b la lb));
      }
