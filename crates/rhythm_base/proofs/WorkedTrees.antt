-- Rule lists of a small grammar, evaluated.
use Rattle.std.proofs.Common.{◌≡◌, ℕ, true, List, [], ◌∷◌, refl, subst}
use Rattle.rhythm_base.specs.declared.rule.Rule.{Rule}
use Rattle.rhythm_base.specs.Forest.{Tree, none, more}
use Rattle.rhythm_base.specs.Grammar.{Grammar}
use Rattle.rhythm_base.specs.RuleTrees.{IsRuleList}
use Rattle.rhythm_base.specs.TestRules.{test_rules}
use Rattle.rhythm_base.specs.Trees.{are_trees}

module _ (g : Grammar) (units : 12 ≡ g.resolution) (rules : test_rules ≡ g.rules) where
  is_tree_here : (t : Tree) → are_trees test_rules ((12, 0) ∷ []) (more t.rule t.kids none) ≡ true → are_trees g.rules ((g.resolution, 0) ∷ []) (more t.rule t.kids none) ≡ true
  is_tree_here t h =
      let P : ℕ → List Rule → Type 0 = λ w l. are_trees l ((w, 0) ∷ []) (more t.rule t.kids none) ≡ true in
      subst (P g.resolution) rules (subst (λ w. P w test_rules) units h)

  pub leaf_list : IsRuleList g 0 (2 ∷ [])
  leaf_list = let t : Tree = record { rule = 2; kids = none } in (t, (is_tree_here t refl, refl))

  pub nested_list : IsRuleList g 0 (0 ∷ 1 ∷ 2 ∷ 2 ∷ 2 ∷ [])
  nested_list =
      let t : Tree = record { rule = 0; kids = more 1 (more 2 none (more 2 none none)) (more 2 none none) } in
      (t, (is_tree_here t refl, refl))
