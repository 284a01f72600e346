use Rattle.std.proofs.Common.{◌≡◌, ◌∙◌, ◌+◌, suc, length, sym, subst, arith}
use Rattle.std.specs.Prelude.{slice_set}
use Rattle.bar_trees.specs.WrittenLists.{AreListsWritten, IsListAt, IsListOf, list_number}
use Rattle.bar_trees.proofs.ListEnds.{written-next}
use Rattle.best_trees.specs.Grids.{first_keys}
use Rattle.best_trees.proofs.Writing.{list-at}
use Rattle.best_trees.proofs.least.write_row.Goals as goal

pub counts-preserved : goal.counts-preserved
counts-preserved c =
    let keys = first_keys c.args.grid.now in
    let from = c.args.from in
    let to = c.counts.number in
    let more = c.in_ok-write_list.ensures in
    let later = c.write_list.new.rules.items in
    let row : c.count.result ≡ from = c.count.ensures.is in
    let column : c.count-in-counts.result ≡ to = c.count-in-counts.ensures.is ∙ c.of-to.ensures in
    let ends = c.in_ok-end.ensures.ends ∙ (λ i. slice_set c.counts.written.ends (list_number (row i) (column i)) (length later)) in
    let next : suc (list_number from to) ≡ list_number from (to + 1) = omega arith in
    let own : IsListOf (keys from to) more.0 = subst (λ n. IsListOf (keys from n) more.0) c.of-to.ensures more.2 in
    let here = written-next (IsListAt keys) c.counts.written.rules.items more.0 later c.counts.written.ends (list_number from to) (list_number from (to + 1)) (omega (arith, c.counts-test.true, row, c.count.ensures.within)) c.counts.invariant more.1
    (list-at keys from to more.0 c.counts-test.true own) next in
    subst (λ l. AreListsWritten (IsListAt keys) l c.end.new.self.ends (list_number from (to + 1))) (sym c.in_ok-end.ensures.rules)
    (subst (λ e. AreListsWritten (IsListAt keys) later e (list_number from (to + 1))) (sym ends) here)
