use Rattle.std.proofs.Common.{◌≡◌, ◌+◌, suc, refl, sym, subst, arith}
use Rattle.least_rows.specs.Roots.{IsRootListAt}
use Rattle.least_rows.specs.Texts.{AreTexts}
use Rattle.bar_trees.specs.WrittenLists.{AreListsWritten, list_number}
use Rattle.bar_trees.proofs.ListEnds.{written-next}
use Rattle.least_rows.proofs.RootRows.{root-list-of, row-best}
use Rattle.least_rows.proofs.roots.write_lists.Goals as goal

pub write_list-requires-clause-best : goal.write_list-requires-clause-best
write_list-requires-clause-best c = row-best c.args.search.now.grammar.now c.args.search.now.input.now c.args.from c.counts.to c.args.bests.now c.counts-test.true c.requires.bests

pub counts-preserved : goal.counts-preserved
counts-preserved c =
    let bar = c.args.search.now in
    let from = c.args.from in
    let to = c.counts.to in
    let old = c.counts.invariant in
    let more = c.in_ok-write_list.ensures.list in
    let later = c.write_list.new.rules.items in
    let next : suc (list_number from to) ≡ list_number from (to + 1) = omega arith in
    let here = written-next (IsRootListAt bar.grammar.now bar.input.now) c.counts.lists.rules.items more.0 later c.counts.lists.ends (list_number from to) (list_number from (to + 1)) (omega (arith, c.counts-test.true, c.requires.from)) old.written more.1
    (root-list-of bar.grammar.now bar.input.now from to (list_number from to) more.0 c.counts-test.true more.2 refl) next in
    record {
      known = c.in_ok-write_list.ensures.known;
      texts = subst (λ l. AreTexts bar l c.write_list.new.texts) (sym c.in_ok-end.ensures.rules) c.in_ok-write_list.ensures.texts;
      written = subst (λ l. AreListsWritten (IsRootListAt bar.grammar.now bar.input.now) l c.end.new.self.ends (list_number from (to + 1))) (sym c.in_ok-end.ensures.rules)
          (subst (λ e. AreListsWritten (IsRootListAt bar.grammar.now bar.input.now) later e (list_number from (to + 1))) (sym c.in_ok-end.ensures.ends) here);
    }
