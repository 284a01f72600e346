use Rattle.std.proofs.Common.{[], List, ℕ, sym, subst}
use Rattle.least_rows.specs.Roots.{IsOnlyTree, IsRootListAt}
use Rattle.bar_trees.specs.WrittenLists.{AreListsWritten}
use Rattle.least_rows.proofs.RootRows.{quiet-rows, quiet-written, quiet_ends}
use Rattle.least_rows.proofs.quiet_trees.quiet_trees.Goals as goal

pub returns-clause-rows : goal.returns-clause-rows
returns-clause-rows c =
    quiet-rows c.args.grammar.now c.args.input.now c.in_ok-a.a.best c.in_ok-b.b.best c.in_ok-c.c.best c.in_ok-d.d.best c.in_ok-e.e.best
    c.clear.new.self.items c.only_tree.new.rules.items c.only_tree-2.new.rules.items c.only_tree-3.new.rules.items c.only_tree-4.new.rules.items c.only_tree-5.new.rules.items
    (subst (λ n. IsOnlyTree c.args.grammar.now c.args.input.now n c.clear.new.self.items c.only_tree.new.rules.items c.in_ok-a.a.best) c.of.ensures c.in_ok-a.ensures.tree)
    (subst (λ n. IsOnlyTree c.args.grammar.now c.args.input.now n c.only_tree.new.rules.items c.only_tree-2.new.rules.items c.in_ok-b.b.best) c.of-2.ensures c.in_ok-b.ensures.tree)
    (subst (λ n. IsOnlyTree c.args.grammar.now c.args.input.now n c.only_tree-2.new.rules.items c.only_tree-3.new.rules.items c.in_ok-c.c.best) c.of-3.ensures c.in_ok-c.ensures.tree)
    (subst (λ n. IsOnlyTree c.args.grammar.now c.args.input.now n c.only_tree-3.new.rules.items c.only_tree-4.new.rules.items c.in_ok-d.d.best) c.of-4.ensures c.in_ok-d.ensures.tree)
    (subst (λ n. IsOnlyTree c.args.grammar.now c.args.input.now n c.only_tree-4.new.rules.items c.only_tree-5.new.rules.items c.in_ok-e.e.best) c.of-5.ensures c.in_ok-e.ensures.tree)

pub returns-clause-written : goal.returns-clause-written
returns-clause-written c =
    let g = c.args.grammar.now in
    let k = c.args.input.now in
    let first : IsOnlyTree g k 0 [] c.only_tree.new.rules.items c.in_ok-a.a.best = subst (λ old. IsOnlyTree g k 0 old c.only_tree.new.rules.items c.in_ok-a.a.best) c.clear.ensures.items (subst (λ n. IsOnlyTree c.args.grammar.now c.args.input.now n c.clear.new.self.items c.only_tree.new.rules.items c.in_ok-a.a.best) c.of.ensures c.in_ok-a.ensures.tree) in
    let written = quiet-written g k c.in_ok-a.a.best c.in_ok-b.b.best c.in_ok-c.c.best c.in_ok-d.d.best c.in_ok-e.e.best
    c.only_tree.new.rules.items c.only_tree-2.new.rules.items c.only_tree-3.new.rules.items c.only_tree-4.new.rules.items c.only_tree-5.new.rules.items
    first
    (subst (λ n. IsOnlyTree c.args.grammar.now c.args.input.now n c.only_tree.new.rules.items c.only_tree-2.new.rules.items c.in_ok-b.b.best) c.of-2.ensures c.in_ok-b.ensures.tree)
    (subst (λ n. IsOnlyTree c.args.grammar.now c.args.input.now n c.only_tree-2.new.rules.items c.only_tree-3.new.rules.items c.in_ok-c.c.best) c.of-3.ensures c.in_ok-c.ensures.tree)
    (subst (λ n. IsOnlyTree c.args.grammar.now c.args.input.now n c.only_tree-3.new.rules.items c.only_tree-4.new.rules.items c.in_ok-d.d.best) c.of-4.ensures c.in_ok-d.ensures.tree)
    (subst (λ n. IsOnlyTree c.args.grammar.now c.args.input.now n c.only_tree-4.new.rules.items c.only_tree-5.new.rules.items c.in_ok-e.e.best) c.of-5.ensures c.in_ok-e.ensures.tree) in
    let P : List ℕ → Type 0 = λ ends. AreListsWritten (IsRootListAt g k) c.only_tree-5.new.rules.items ends 25 in
    subst P
    (λ i. quiet_ends (sym c.in_ok-a.ensures.end i) (sym c.in_ok-b.ensures.end i) (sym c.in_ok-c.ensures.end i) (sym c.in_ok-d.ensures.end i) (sym c.in_ok-e.ensures.end i))
    written
