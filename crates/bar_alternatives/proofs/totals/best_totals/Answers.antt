use Rattle.std.proofs.Common.{rules, ◌≡◌, ◌∙◌, ◌/◌, ◌%◌, ◌<◌, subst, sym, arith}
use Rattle.std.specs.Prelude.{None}
use Rattle.std.proofs.lemmas.List.{get_or_default}
use Rattle.best_trees.specs.Firsts.{AreAddable, AreKeptKeys}
use Rattle.best_trees.specs.Grids.{ranking_at}
use Rattle.bar_alternatives.proofs.WholeBars.{totals-all, totals-kept, totals-next}
use Rattle.bar_alternatives.proofs.totals.best_totals.Goals as goal

pub pairs-preserved : goal.pairs-preserved
pairs-preserved c =
    let n = c.pairs.pair in
    let low : n < 25 = c.pairs-test.true in
    let row : c.of.result ≡ n / 5 = search rules in
    let column : c.of-in-pairs.result ≡ n % 5 = search rules in
    record {
      kept = subst (AreKeptKeys c.args.count) (sym c.in_ok-offer_totals.ensures) (totals-kept c.args.count _ _ c.at-trees.result.now c.pairs.best c.pairs.invariant.kept);
      so_far = totals-next c.args.count c.args.before.now c.args.after.now c.args.grid.now n _ _ c.at-trees.result.now c.pairs.best c.offer_totals.new.best
          (get_or_default c.args.before.now (n / 5) _ None (let long = c.told-before in omega (arith, low, long)))
          (get_or_default c.args.after.now (n % 5) _ None (let long = c.told-after in omega (arith, low, long)))
          (c.at-trees.ensures.value ∙ (λ i. ranking_at c.args.grid.now (row i) (column i))) c.pairs.invariant.so_far c.in_ok-offer_totals.ensures;
    }

pub returns : goal.returns
returns c =
    let all : c.pairs.pair ≡ 25 = search rules in
    totals-all c.args.count c.args.before.now c.args.after.now c.args.grid.now c.pairs.best c.pairs.pair all c.pairs.invariant.so_far

pub offer_totals-requires-clause-trees : goal.offer_totals-requires-clause-trees
offer_totals-requires-clause-trees c =
    subst AreAddable (sym c.at-trees.ensures.value) (c.requires.grid c.of.result c.of-in-pairs.result c.at-trees.ensures.from c.at-trees.ensures.to)
