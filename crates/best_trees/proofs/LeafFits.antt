-- A leaf alone fits where its rule agrees with what it hears.
use Rattle.std.proofs.Common.{◌≡◌, ℕ, ◌<◌, ◌≤◌, ◌+◌, ◌&&◌, inl, inr, Bool, true, false, [], ◌∷◌, length, refl, sym, ◌∙◌, subst, arith}
use Rattle.rhythm_base.specs.declared.rule.Ending.{Ending}
use Rattle.rhythm_base.specs.BarInput.{BarInput}
use Rattle.rhythm_base.specs.Cells.{bar_of}
use Rattle.rhythm_base.specs.Grammar.{Grammar}
use Rattle.rhythm_base.specs.Leaves.{looks}
use Rattle.rhythm_base.specs.Line.{agrees}
use Rattle.rhythm_base.specs.Lists.{last_end}
use Rattle.tree_laws.specs.Places.{FitsAt, end_before}
use Rattle.tree_laws.proofs.Ranks.{both}
use Rattle.tree_laws.proofs.Runs.{agrees-few}
use Rattle.row_laws.specs.Leaves.{HasLeaf, IsCrowded, leaf_of_cell, next_ends, own_ends}
use Rattle.best_trees.specs.declared.memo.Asked.{Asked}
use Rattle.best_trees.specs.declared.search.SearchedBar.{SearchedBar}
use Rattle.best_trees.specs.Nodes.{HasNoLeaf}
use Rattle.best_trees.specs.Pins.{demanded}
use Rattle.rhythm_base.specs.Forest.{none}
use Rattle.tree_laws.specs.Forests.{has_shapes}

module _ (k : BarInput) (p w : ℕ) (ending : Ending) where
  abbrev Fits : ℕ → ℕ → ℕ → Type 0
  Fits r a b = FitsAt r (bar_of k) k.chords k.before p (record { ending = ending; place = p; width = w } ∷ []) a b

  -- where a leaf fits, it agrees with what it hears
  fits-runs : (r a b : ℕ) → r ≡ k.resolution → Fits r a b
      → (agrees ending (a + length (own_ends k p w)) ((looks k.resolution).sounds (leaf_of_cell k p w) (last_end (end_before k.resolution (bar_of k) k.chords k.before p) (own_ends k p w))) ≡ true)
      × (length (next_ends k p w) ≡ b) × (b ≤ 4)
  fits-runs r a b units fits =
      let P : ℕ → Type 0 = λ r. Fits r a b in
      let own = subst P units fits in
      ((both _ _ own.runs).0, own.leave, own.few_to)

  pub never-crowded : (r a b : ℕ) → r ≡ k.resolution → IsCrowded k p w → Fits r a b → ⊥
  never-crowded r a b units many fits =
      let run = fits-runs r a b units fits in
      let few = agrees-few ending (a + length (own_ends k p w)) _ run.0 in
      let out = run.1 in
      let few_out = run.2 in
      elim many [
        | inl own ↦ absurd (omega (arith, few, own))
        | inr next ↦ absurd (omega (arith, out, few_out, next))
      ]

  module _ (g : Grammar) (units : g.resolution ≡ k.resolution) (own next cost : ℕ) (sounding : Bool) (here : HasLeaf g k p w own next sounding cost) where
    agrees-is : (a : ℕ) → agrees ending (a + own) sounding
        ≡ agrees ending (a + length (own_ends k p w)) ((looks k.resolution).sounds (leaf_of_cell k p w) (last_end (end_before k.resolution (bar_of k) k.chords k.before p) (own_ends k p w)))
    agrees-is a = λ i. agrees ending (a + here.own_chords i) (here.sounds i)

    pub fits-agrees : (a b : ℕ) → Fits g.resolution a b → (agrees ending (a + own) sounding ≡ true) × (next ≡ b)
    fits-agrees a b fits = let run = fits-runs g.resolution a b units fits in (agrees-is a ∙ run.0, here.next_chords ∙ run.1)

    pub agrees-fits : (a b : ℕ) → a < 5 → b < 5 → agrees ending (a + own) sounding ≡ true → next ≡ b → Fits g.resolution a b
    agrees-fits a b la lb on out =
        let P : ℕ → Type 0 = λ r. Fits r a b in
        subst P (sym units) (record { runs = and_true _ (sym (agrees-is a) ∙ on); leave = sym here.next_chords ∙ out; few_from = omega (arith, la); few_to = omega (arith, lb) })
      where
        and_true : (x : Bool) → x ≡ true → x && true ≡ true
        and_true true e = refl
        and_true false e = e

-- no leaf where it is crowded, or where others are demanded
pub crowded-none : (bar : SearchedBar) (asked : Asked) → bar.grammar.now.resolution ≡ bar.input.now.resolution → IsCrowded bar.input.now asked.place asked.width → HasNoLeaf bar asked
crowded-none bar asked units many =
    record { none_fits = λ ending a b allowed fits. never-crowded bar.input.now asked.place asked.width ending bar.grammar.now.resolution a b units many fits }

pub denied-none : (bar : SearchedBar) (asked : Asked) → (has_shapes (demanded bar.pins.now asked.demand) none ≡ true → ⊥) → HasNoLeaf bar asked
denied-none bar asked denied = record { none_fits = λ ending a b allowed fits. denied allowed }
