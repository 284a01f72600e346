use Rattle.std.proofs.Common.{arith, refl, ◌+◌, length, ap, get_or}
use Rattle.performance_prepare.specs.Groups.{groups}
use Rattle.performance_prepare.specs.Hands.{left_notes}
use Rattle.performance_prepare.proofs.Handed.{count_end, count_more, slice_few}
use Rattle.performance_prepare.proofs.hands.left_count.Goals as goal

pub overflow_add-count : goal.overflow_add-count
overflow_add-count c =
    let f = c.borders.invariant.few in
    let g = c.count_below-count.ensures.few in
    let s = slice_few c.args.notes.now c.borders.start c.group_end-end.result in
    let l = c.group_end-end.ensures.later in
    let t = c.group_end-end.type_inv in
    omega (arith, f, g, s, l, t)

pub borders-preserved : goal.borders-preserved
borders-preserved c = record {
  count = count_more c.args.map.now.tempos c.args.division c.args.within c.args.notes.now c.args.borders.now c.borders.start
      c.group_end-end.result c.borders.border-index (get_or c.args.borders.now c.borders.border-index 0) c.borders.count
      (c.borders.count + c.count_below-count.result) (length
      (left_notes (groups c.args.map.now.tempos c.args.division c.args.within c.args.notes.now) c.args.borders.now)) c.borders-test.true
      refl c.group_end-end.ensures.group
      (ap (λ n. c.borders.count + n) c.count_below-count.ensures.notes) c.borders.invariant.count;
  few = (
      let f = c.borders.invariant.few in
      let g = c.count_below-count.ensures.few in
      let s = slice_few c.args.notes.now c.borders.start c.group_end-end.result in
      let l = c.group_end-end.ensures.later in
      omega (arith, f, g, s, l)
      );
  within = c.group_end-end.ensures.within;
}

pub returns : goal.returns
returns c =
    count_end c.args.map.now.tempos c.args.division c.args.within c.args.notes.now c.args.borders.now c.borders.start c.borders.border-index
    c.borders.count
    (length (left_notes (groups c.args.map.now.tempos c.args.division c.args.within c.args.notes.now) c.args.borders.now))
    c.borders-test.false c.borders.invariant.count
