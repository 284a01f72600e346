use Rattle.std.proofs.Common.{rules, ◌≡◌, ◌+◌, subst, arith}
use Rattle.least_rows.specs.Roots.{IsRootListAt}
use Rattle.bar_trees.specs.WrittenLists.{AreListsWritten, list_number}
use Rattle.least_rows.proofs.roots.write_rows.Goals as goal

pub counts-preserved : goal.counts-preserved
counts-preserved c =
    let from = c.counts.from in
    let next : list_number from 5 ≡ list_number (from + 1) 0 = omega arith in
    record {
      known = c.in_ok-write_lists.ensures.known;
      texts = c.in_ok-write_lists.ensures.texts;
      written = subst (AreListsWritten (IsRootListAt c.args.search.now.grammar.now c.args.search.now.input.now) c.write_lists.new.lists.rules.items c.write_lists.new.lists.ends) next c.in_ok-write_lists.ensures.written;
    }

pub returns : goal.returns
returns c =
    let all : c.counts.from ≡ 5 = search rules in
    subst (λ n. AreListsWritten (IsRootListAt c.args.search.now.grammar.now c.args.search.now.input.now) c.counts.lists.rules.items c.counts.lists.ends (list_number n 0)) all c.counts.invariant.written
