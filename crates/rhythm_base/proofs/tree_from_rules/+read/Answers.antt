use Rattle.std.proofs.Common.{ℕ, List, ◌≡◌, ◌++◌, ◌∷◌, [], ◌-◌, get_or, length, take, drop, ap, sym, ◌∙◌, subst, append_assoc}
use Rattle.std.proofs.lemmas.Result.{IfOk-weaker}
use Rattle.rhythm_base.specs.Forest.{Tree, forest_of, more}
use Rattle.rhythm_base.specs.RuleTrees.{AreFirst}
use Rattle.rhythm_base.proofs.RuleTrees.{first-more, first-parts}
use Rattle.rhythm_base.proofs.ShapeTexts.{first_and_rest}
use Rattle.rhythm_base.proofs.tree_from_rules.+read.Goals as goal

pub first_tree-returns-clause-parts : goal.first_tree-returns-clause-parts
first_tree-returns-clause-parts t c = λ count other.
    let read = c.in_ok-rest.ensures.read in
    let same : c.push_trees.new.trees.items ≡ read.0 = read.1 ∙ ap (λ l. l ++ read.0) c.new-kids.ensures.items in
    first-parts c.args.book.now c.args.rule c.parts_of-count.result count c.args.rules.now c.in_ok-rest.rest.now (forest_of c.push_trees.new.trees.items) c.parts_of-count.ensures
    (subst (λ l. AreFirst c.args.book.now c.parts_of-count.result c.args.rules.now (forest_of l) c.in_ok-rest.rest.now) (sym same) read.2) other

pub push_trees-returns-in_ok-push-in-len1-up-clause-read : goal.push_trees-returns-in_ok-push-in-len1-up-clause-read
push_trees-returns-in_ok-push-in-len1-up-clause-read t c =
    let list : List ℕ = c.args.rules.now in
    let after : List ℕ = take (length list - 1) (drop 1 list) in
    let is : list ≡ get_or list 0 0 ∷ after = first_and_rest 0 list c.in-len1-up.len_at_least in
    let tree : Tree = c.in_ok-tree-in-len1-up.tree in
    IfOk-weaker c.push_trees.result _ _ (λ last w. (
      tree ∷ w.0,
      w.1 ∙ ap (λ l. l ++ w.0) c.in_ok-push-in-len1-up.ensures.items ∙ append_assoc c.args.trees.now.items (tree ∷ []) w.0,
      subst (λ l. AreFirst c.args.book.now c.args.count l (more tree.rule tree.kids (forest_of w.0)) last.now) (sym is)
          (first-more c.args.book.now c.args.count (get_or list 0 0) after c.in_ok-tree-in-len1-up.rest.now last.now tree (forest_of w.0) c.if-count-gt0.true
          c.in_ok-tree-in-len1-up.ensures.rule c.in_ok-tree-in-len1-up.ensures.parts w.2),
    )) c.push_trees.ensures.read
