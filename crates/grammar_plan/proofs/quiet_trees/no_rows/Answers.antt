use Rattle.std.proofs.Common.{rules, ◌≡◌, ℕ, List, [], ◌∷◌, ◌++◌, None, sym, subst}
use Rattle.std.specs.Prelude.{Option}
use Rattle.grammar_plan.specs.QuietRows.{entry}
use Rattle.grammar_plan.specs.declared.quiet_tree.QuietTree.{QuietTree}
use Rattle.grammar_plan.proofs.QuietSteps.{none-next}
use Rattle.grammar_plan.proofs.quiet_trees.no_rows.Goals as goal

pub rows-preserved : goal.rows-preserved
rows-preserved c =
    let is : c.push.new.self.items ≡ c.rows.rows.items ++ (None ∷ None ∷ None ∷ None ∷ None ∷ []) ∷ [] = search rules in
    record {
      long = search rules;
      none = subst (λ (l : List (List (Option QuietTree))). (n from : ℕ) → entry l n from ≡ None) (sym is) (none-next c.rows.rows.items c.rows.invariant.none);
    }
