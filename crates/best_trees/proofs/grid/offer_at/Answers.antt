use Rattle.std.proofs.Common.{rules, ◌≡◌, ◌∙◌, ap, subst, sym}
use Rattle.rhythm_base.specs.Ranked.{Key}
use Rattle.best_trees.specs.Firsts.{AreAddable}
use Rattle.best_trees.specs.Grids.{ranking_at}
use Rattle.best_trees.proofs.Grids.{joined-all, joined-bare_left, joined-bare_right, joined-kept, joined-next}
use Rattle.best_trees.proofs.grid.offer_at.Goals as goal

pub offer_sums-requires-clause-left : goal.offer_sums-requires-clause-left
offer_sums-requires-clause-left c = subst AreAddable (sym c.at-first.ensures.value) (c.requires.left c.args.from c.of-middle.result c.at-first.ensures.from c.at-first.ensures.to)

pub offer_sums-requires-clause-right : goal.offer_sums-requires-clause-right
offer_sums-requires-clause-right c = subst AreAddable (sym c.at-second.ensures.value) (c.requires.right c.of-middle.result c.args.to c.at-second.ensures.from c.at-second.ensures.to)

pub counts-preserved : goal.counts-preserved
counts-preserved c =
    let n = c.args.count in
    let top : Key = (c.args.sides.now.cost, c.args.sides.now.top.now) in
    let l = c.args.sides.now.left.now in
    let r = c.args.sides.now.right.now in
    let old = c.args.best.now in
    let now = c.counts.best in
    let m = c.counts.number in
    let first = c.at-first.result.now in
    let others = c.at-second.result.now in
    record {
      kept = joined-kept n top l r c.args.from c.args.to old now c.offer_sums.new.self first others c.counts.invariant.kept c.in_ok-offer_sums.ensures;
      so_far = joined-next n top l r c.args.from c.args.to old m now c.offer_sums.new.self first others (c.at-first.ensures.value ∙ ap (λ i. ranking_at l c.args.from i) c.of-middle.ensures) (c.at-second.ensures.value ∙ ap (λ i. ranking_at r i c.args.to) c.of-middle.ensures) c.counts.invariant.so_far c.in_ok-offer_sums.ensures;
    }

pub counts-preserved-then-is_empty : goal.counts-preserved-then-is_empty
counts-preserved-then-is_empty c =
    let n = c.args.count in
    let top : Key = (c.args.sides.now.cost, c.args.sides.now.top.now) in
    let l = c.args.sides.now.left.now in
    let r = c.args.sides.now.right.now in
    let old = c.args.best.now in
    let now = c.counts.best in
    let m = c.counts.number in
    let first = c.at-first.result.now in
    record {
      kept = c.counts.invariant.kept;
      so_far = joined-bare_left n top l r c.args.from c.args.to old m now first (c.at-first.ensures.value ∙ ap (λ i. ranking_at l c.args.from i) c.of-middle.ensures) (c.is_empty.ensures.0 c.if-is_empty.true) c.counts.invariant.so_far;
    }

pub counts-preserved-then-is_empty-2 : goal.counts-preserved-then-is_empty-2
counts-preserved-then-is_empty-2 c =
    let n = c.args.count in
    let top : Key = (c.args.sides.now.cost, c.args.sides.now.top.now) in
    let l = c.args.sides.now.left.now in
    let r = c.args.sides.now.right.now in
    let old = c.args.best.now in
    let now = c.counts.best in
    let m = c.counts.number in
    let others = c.at-second.result.now in
    record {
      kept = c.counts.invariant.kept;
      so_far = joined-bare_right n top l r c.args.from c.args.to old m now others (c.at-second.ensures.value ∙ ap (λ i. ranking_at r i c.args.to) c.of-middle.ensures) (c.is_empty-in-counts.ensures.0 c.if-is_empty-2.true) c.counts.invariant.so_far;
    }

pub returns : goal.returns
returns c =
    let all : c.counts.number ≡ 5 = search rules in
    joined-all c.args.count (c.args.sides.now.cost, c.args.sides.now.top.now) c.args.sides.now.left.now c.args.sides.now.right.now c.args.from c.args.to c.args.best.now c.counts.best c.counts.number all c.counts.invariant.so_far
