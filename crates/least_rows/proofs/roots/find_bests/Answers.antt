use Rattle.std.proofs.Common.{rules, ◌≡◌, true, false, get_or, ◌∙◌, subst, sym}
use Rattle.std.proofs.lemmas.List.{length-set}
use Rattle.least_rows.specs.Roots.{AreAskedRows, AreRootBests, IsAskedRow}
use Rattle.least_rows.proofs.RootRows.{rest-same, rows-next}
use Rattle.least_rows.proofs.roots.find_bests.Goals as goal

pub counts-preserved : goal.counts-preserved
counts-preserved c =
    let old = c.counts.invariant in
    let rows = c.counts.bests.rows in
    let row = c.in_ok-row.row in
    let on : get_or c.args.asked c.counts.from false ≡ true = search rules in
    record {
      known = c.in_ok-row.ensures.known;
      long = length-set rows c.counts.from row ∙ old.long;
      rows = rows-next c.args.search.now.grammar.now c.args.search.now.input.now c.args.asked c.counts.from rows row old.long c.counts-test.true old.rows (subst (λ t. IsAskedRow c.args.search.now.grammar.now c.args.search.now.input.now c.counts.from t row) (sym on)
          (subst (λ a. AreRootBests c.args.search.now.grammar.now c.args.search.now.input.now a row) c.of-carried.ensures c.in_ok-row.ensures.bests));
      rest = rest-same c.counts.from rows row old.rest;
    }

pub returns-clause-bests : goal.returns-clause-bests
returns-clause-bests c =
    let all : c.counts.from ≡ 5 = search rules in
    subst (λ n. AreAskedRows c.args.search.now.grammar.now c.args.search.now.input.now c.args.asked n c.counts.bests.rows) all c.counts.invariant.rows
