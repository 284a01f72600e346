use Rattle.least_rows.specs.Roots.{IsRootListAt}
use Rattle.least_rows.specs.States.{AreKnown}
use Rattle.least_rows.specs.Texts.{AreTexts}
use Rattle.bar_trees.specs.WrittenLists.{AreListsWritten, list_number}
use Rattle.least_rows.proofs.roots.write_lists.Given as goal

abbrev pub invariant-counts : goal.invariant-counts
invariant-counts l = record {
  known : AreKnown l.search l.rows;
  texts : AreTexts l.search l.lists.rules.items l.texts;
  written : AreListsWritten (IsRootListAt l.search.grammar.now l.search.input.now) l.lists.rules.items l.lists.ends (list_number l.fn.from l.to);
}
