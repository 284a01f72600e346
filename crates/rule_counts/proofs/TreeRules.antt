-- The rules of trees are rules of the grammar.
use Rattle.std.proofs.Common.{◌≡◌, ◌∙◌, ℕ, ◌<◌, true, List, [], ◌∷◌, ◌++◌, append-nil, length, refl, subst}
use Rattle.std.specs.Prelude.{All, Option, Some, None, slice_get}
use Rattle.std.proofs.lemmas.Bool.{and_parts}
use Rattle.std.proofs.lemmas.List.Elements.{All-append, All-cons, All-nil}
use Rattle.std.proofs.lemmas.Option.{slice_get_within}
use Rattle.rhythm_base.specs.declared.rule.Rule.{Rule}
use Rattle.rhythm_base.specs.Forest.{Forest, none, more, preorder}
use Rattle.rhythm_base.specs.Trees.{are_trees, children_of, suits}
use Rattle.rule_counts.specs.Laws.{RuleListsHaveRulesOfTheGrammar}

-- what is a rule of a symbol is a rule
in_grammar : (rules : List Rule) (r : ℕ) (q : ℕ × ℕ) → suits (slice_get rules r) q ≡ true → r < length rules
in_grammar rules r q h = go (slice_get rules r) (λ x is. slice_get_within rules r x is) h
  where
    go : (o : Option Rule) → ((x : Rule) → o ≡ Some x → r < length rules) → suits o q ≡ true → r < length rules
    go None within h = absurd (cc)
    go (Some x) within h = within x refl

trees_have_rules : (rules : List Rule) (qs : List (ℕ × ℕ)) (f : Forest) → are_trees rules qs f ≡ true → All (λ r. r < length rules) (preorder f)
trees_have_rules rules [] none h = All-nil (λ r. r < length rules)
trees_have_rules rules (q ∷ qs) none h = absurd (cc)
trees_have_rules rules [] (more r kids rest) h = absurd (cc)
trees_have_rules rules (q ∷ qs) (more r kids rest) h =
    let P : ℕ → Type 0 = λ r. r < length rules in
    let here = and_parts (suits (slice_get rules r) q) _ h in
    let below = and_parts (are_trees rules (children_of (slice_get rules r) q.0) kids) _ here.1 in
    All-append P (r ∷ preorder kids) (preorder rest)
    (All-cons P r (preorder kids) (in_grammar rules r q here.0) (trees_have_rules rules (children_of (slice_get rules r) q.0) kids below.0))
    (trees_have_rules rules qs rest below.1)

-- one tree is told by its own rules
pub have_rules : RuleListsHaveRulesOfTheGrammar
have_rules g symbol rules told =
    let t = told.0 in
    let P : List ℕ → Type 0 = All (λ r. r < length g.rules) in
    let alone : t.rule ∷ preorder t.kids ++ [] ≡ rules = append-nil (t.rule ∷ preorder t.kids) ∙ told.1.1 in
    subst P alone (trees_have_rules g.rules ((g.resolution, symbol) ∷ []) (more t.rule t.kids none) told.1.0)
