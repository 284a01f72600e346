-- The trees of the whole bar: as forests of one tree, and as trees that fit the bar.
use Rattle.std.proofs.Common.{◌≡◌, ℕ, ◌+◌, ◌&&◌, true, List, [], ◌∷◌, refl, sym, ap, ap₂, ◌∙◌, subst, arith, append-nil}
use Rattle.std.specs.Prelude.{Option, None}
use Rattle.rhythm_base.specs.BarInput.{BarInput}
use Rattle.rhythm_base.specs.BarTables.{cell_rank}
use Rattle.rhythm_base.specs.Cells.{CellFits, bar_of, cell_cost, leaves_in}
use Rattle.rhythm_base.specs.Cost.{charges, weights}
use Rattle.rhythm_base.specs.Forest.{Tree, none, more, preorder, preorder_of}
use Rattle.rhythm_base.specs.Grammar.{Grammar}
use Rattle.rhythm_base.specs.Leaves.{in_bar}
use Rattle.rhythm_base.specs.Ranked.{Key}
use Rattle.rhythm_base.specs.RuleTrees.{IsTold}
use Rattle.rhythm_base.specs.Trees.{are_trees, has_pin, leaves, leaves_of}
use Rattle.tree_laws.specs.Forests.{IsForestKey, StandsInBar}
use Rattle.tree_laws.specs.Places.{FitsAt}
use Rattle.tree_laws.specs.Voices.{HoldsChords}
use Rattle.tree_laws.proofs.Places.{at-cell, cell-at}
use Rattle.tree_laws.proofs.Ranks.{both}
use Rattle.row_laws.specs.Grounds.{IsReady, ground_of}
use Rattle.row_laws.proofs.RuleKeys.{single_tree}
use Rattle.bar_alternatives.specs.BestTrees.{IsLookedAt}
use Rattle.bar_alternatives.specs.Totals.{IsTotal}
use Rattle.row_laws.proofs.Grounds.{onsets_inside}

module _ (g : Grammar) (k : BarInput) (ready : IsReady g k) (free : k.pin ≡ None) where
  holds : HoldsChords k
  holds = record { long = ready.cell.some_tick; rise = ready.cell.rising; below = onsets_inside k.length k.chords ready.cell.chords }

  abbrev root : List (ℕ × ℕ)
  root = (k.resolution, k.symbol) ∷ []

  any_pin : (t : Tree) → has_pin k.pin t ≡ true
  any_pin t = ap (λ p. has_pin p t) free

  pub stands : (t : Tree) (a b : ℕ) → CellFits g k t a b → StandsInBar (ground_of g k) None 0 root (more t.rule t.kids none) a b
  stands t a b fits = record {
    trees = (both (are_trees g.rules ((k.resolution, k.symbol) ∷ []) (more t.rule t.kids none)) _ fits.tree).0;
    shaped = refl;
    fits = subst (λ r. FitsAt r (bar_of k) k.chords k.before 0 (leaves_of g.rules k.resolution k.symbol t) a b) (sym ready.units) (cell-at g k t a b ready.cell.some_unit holds fits);
  }

  pub fits_cell : (t : Tree) (a b : ℕ) → StandsInBar (ground_of g k) None 0 root (more t.rule t.kids none) a b → CellFits g k t a b
  fits_cell t a b h =
      at-cell g k t a b ready.cell.some_unit holds (ap₂ ◌&&◌ h.trees (any_pin t))
      (subst (λ r. FitsAt r (bar_of k) k.chords k.before 0 (leaves_of g.rules k.resolution k.symbol t) a b) ready.units h.fits)

  rank_is : (t : Tree) → ◌≡◌ {A = Key} (weights g (preorder (more t.rule t.kids none)) + charges g (leaves_in g k t) k.chords, preorder (more t.rule t.kids none)) (cell_rank g k t)
  rank_is t =
      let P : List ℕ → Key = λ l. (weights g l + charges g (leaves_in g k t) k.chords, l) in
      ap P (append-nil (preorder_of t))

  pub cell_key : (t : Tree) (a b : ℕ) → CellFits g k t a b → IsForestKey (ground_of g k) None 0 root a b (cell_cost g k t, preorder_of t)
  cell_key t a b fits = (more t.rule t.kids none, stands t a b fits, sym (rank_is t))

  pub key_cell : (key : Key) (a b : ℕ) → IsForestKey (ground_of g k) None 0 root a b key → (t : Tree) × CellFits g k t a b × (key ≡ (cell_cost g k t, preorder_of t))
  key_cell key a b (f, h, is) =
      let one = single_tree g.rules (k.resolution, k.symbol) f h.trees in
      let t : Tree = record { rule = one.0; kids = one.1 } in
      let own : StandsInBar (ground_of g k) None 0 root (more one.0 one.1 none) a b = subst (λ f. StandsInBar (ground_of g k) None 0 root f a b) one.2 h in
      (t, fits_cell t a b own, is ∙ ap (λ f. (weights g (preorder f) + charges g (in_bar (bar_of k) (leaves g.rules 0 root f)) k.chords, preorder f)) one.2 ∙ rank_is t)

  -- ---- totals

  module _ (before after : List (Option ℕ)) where
    pub looked_total : (a : ℕ × Tree) → IsLookedAt g k before after a → IsTotal g k before after (a.0, preorder_of a.1)
    looked_total a h =
        let from = h.fits.few_from in
        let to = h.fits.few_to in
        let sum : a.0 ≡ h.first + h.last + cell_cost g k a.1 = let t = h.total in omega (arith, t) in
        (h.from, h.to, omega (arith, from), omega (arith, to), (h.first, h.last, (cell_cost g k a.1, preorder_of a.1), h.there_before, h.there_after, cell_key a.1 h.from h.to h.fits, (λ i. (sum i, preorder_of a.1))))

    pub total_looked : (key : Key) → IsTotal g k before after key → (t : Tree) × IsTold g k.symbol key.1 t × IsLookedAt g k before after (key.0, t)
    total_looked key (a, b, la, lb, (first, last, own, there, further, tree, is)) =
        let found = key_cell own a b tree in
        let t : Tree = found.0 in
        let list : preorder_of t ≡ key.1 = sym (ap (λ (x : Key). x.1) found.2) ∙ sym (ap (λ (x : Key). x.1) is) in
        let own_cost : own.0 ≡ cell_cost g k t = ap (λ (x : Key). x.0) found.2 in
        let sum : key.0 ≡ first + last + own.0 = ap (λ (x : Key). x.0) is in
        let trees : are_trees g.rules ((k.resolution, k.symbol) ∷ []) (more t.rule t.kids none) ≡ true = (both (are_trees g.rules ((k.resolution, k.symbol) ∷ []) (more t.rule t.kids none)) _ found.1.tree).0 in (
          t,
          (subst (λ r. are_trees g.rules ((r, k.symbol) ∷ []) (more t.rule t.kids none) ≡ true) (sym ready.units) trees, list),
          record { from = a; to = b; fits = found.1; first = first; last = last; there_before = there; there_after = further; total = omega (arith, own_cost, sum) },
        )

    pub looked_told : (a : ℕ × Tree) → IsLookedAt g k before after a → IsTold g k.symbol (preorder_of a.1) a.1
    looked_told a h =
        let t : Tree = a.1 in
        let trees : are_trees g.rules ((k.resolution, k.symbol) ∷ []) (more t.rule t.kids none) ≡ true = (both (are_trees g.rules ((k.resolution, k.symbol) ∷ []) (more t.rule t.kids none)) _ h.fits.tree).0 in
        (subst (λ r. are_trees g.rules ((r, k.symbol) ∷ []) (more t.rule t.kids none) ≡ true) (sym ready.units) trees, refl)
