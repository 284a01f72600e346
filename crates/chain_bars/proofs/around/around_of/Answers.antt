use Rattle.std.proofs.Common.{◌∙◌, ◌+◌, ◌*◌, ◌/◌, ◌<◌, ◌≤◌, [], length, ap, sym, subst, arith}
use Rattle.std.specs.Prelude.{slice_index_or}
use Rattle.rhythm_base.specs.Counter.{risen}
use Rattle.rhythm_base.specs.Ranked.{product_of}
use Rattle.chain_bars.specs.Tower.{Level, level}
use Rattle.chain_bars.proofs.Lists.{tier_read}
use Rattle.chain_bars.proofs.Sides.{IsBefore, IsAfter, side_asks, before_start, before_step, before_root, after_start, after_step, after_root, sides_step, sides_end}
use Rattle.chain_bars.proofs.around.around_of.Goals as goal

pub up-init : goal.up-init
up-init g c = (
  c.requires.at,
  subst (IsBefore (level c.args.levels.now 0) c.args.at 0 c.args.at) (sym c.identity-before.ensures) (before_start (level c.args.levels.now 0) c.args.at c.requires.cells.ranked),
  subst (IsAfter (level c.args.levels.now 0) c.args.at 0 c.args.at) (sym c.identity-after.ensures) (after_start (level c.args.levels.now 0) c.args.at c.requires.cells.ranked),
  λ d few. omega arith,
  omega arith,
)

pub with_left-before-requires-clause-place : goal.with_left-before-requires-clause-place
with_left-before-requires-clause-place g c κs within = (side_asks c.args.levels.now c.slice.result.now c.up.below c.up.place c.up.before c.requires.cells c.requires.tower (omega (arith, c.up-test.true, c.requires.tower.count))
    (c.slice.ensures ∙ ap (λ (x : Level). x.nodes) (tier_read c.args.levels.now c.up.below c.index-levels-below.result (omega (arith, c.up-test.true)) c.index-levels-below.is)) c.up.invariant.0 c.up.invariant.1.cheap).held

pub with_left-before-requires-clause-cheap : goal.with_left-before-requires-clause-cheap
with_left-before-requires-clause-cheap g c κs within = (side_asks c.args.levels.now c.slice.result.now c.up.below c.up.place c.up.before c.requires.cells c.requires.tower (omega (arith, c.up-test.true, c.requires.tower.count))
    (c.slice.ensures ∙ ap (λ (x : Level). x.nodes) (tier_read c.args.levels.now c.up.below c.index-levels-below.result (omega (arith, c.up-test.true)) c.index-levels-below.is)) c.up.invariant.0 c.up.invariant.1.cheap).cheap

pub with_left-before-requires-clause-small : goal.with_left-before-requires-clause-small
with_left-before-requires-clause-small g c κs within = (side_asks c.args.levels.now c.slice.result.now c.up.below c.up.place c.up.before c.requires.cells c.requires.tower (omega (arith, c.up-test.true, c.requires.tower.count))
    (c.slice.ensures ∙ ap (λ (x : Level). x.nodes) (tier_read c.args.levels.now c.up.below c.index-levels-below.result (omega (arith, c.up-test.true)) c.index-levels-below.is)) c.up.invariant.0 c.up.invariant.1.cheap).small

pub with_right-after-requires-clause-few : goal.with_right-after-requires-clause-few
with_right-after-requires-clause-few g c κs within = (side_asks c.args.levels.now c.slice-in-up.result.now c.up.below c.up.place c.up.after c.requires.cells c.requires.tower (omega (arith, c.up-test.true, c.requires.tower.count))
    (c.slice-in-up.ensures ∙ ap (λ (x : Level). x.nodes) (tier_read c.args.levels.now c.up.below c.index-levels-below-in-up.result (omega (arith, c.up-test.true)) c.index-levels-below-in-up.is)) c.up.invariant.0 c.up.invariant.2.cheap).few

pub with_right-after-requires-clause-place : goal.with_right-after-requires-clause-place
with_right-after-requires-clause-place g c κs within = (side_asks c.args.levels.now c.slice-in-up.result.now c.up.below c.up.place c.up.after c.requires.cells c.requires.tower (omega (arith, c.up-test.true, c.requires.tower.count))
    (c.slice-in-up.ensures ∙ ap (λ (x : Level). x.nodes) (tier_read c.args.levels.now c.up.below c.index-levels-below-in-up.result (omega (arith, c.up-test.true)) c.index-levels-below-in-up.is)) c.up.invariant.0 c.up.invariant.2.cheap).held

pub with_right-after-requires-clause-cheap : goal.with_right-after-requires-clause-cheap
with_right-after-requires-clause-cheap g c κs within = (side_asks c.args.levels.now c.slice-in-up.result.now c.up.below c.up.place c.up.after c.requires.cells c.requires.tower (omega (arith, c.up-test.true, c.requires.tower.count))
    (c.slice-in-up.ensures ∙ ap (λ (x : Level). x.nodes) (tier_read c.args.levels.now c.up.below c.index-levels-below-in-up.result (omega (arith, c.up-test.true)) c.index-levels-below-in-up.is)) c.up.invariant.0 c.up.invariant.2.cheap).cheap

pub with_right-after-requires-clause-small : goal.with_right-after-requires-clause-small
with_right-after-requires-clause-small g c κs within = (side_asks c.args.levels.now c.slice-in-up.result.now c.up.below c.up.place c.up.after c.requires.cells c.requires.tower (omega (arith, c.up-test.true, c.requires.tower.count))
    (c.slice-in-up.ensures ∙ ap (λ (x : Level). x.nodes) (tier_read c.args.levels.now c.up.below c.index-levels-below-in-up.result (omega (arith, c.up-test.true)) c.index-levels-below-in-up.is)) c.up.invariant.0 c.up.invariant.2.cheap).small

pub up-preserved : goal.up-preserved
up-preserved g c =
    let es = level c.args.levels.now 0 in
    let low = c.up-test.true in
    let left = side_asks c.args.levels.now c.slice.result.now c.up.below c.up.place c.up.before c.requires.cells c.requires.tower (omega (arith, c.up-test.true, c.requires.tower.count))
    (c.slice.ensures ∙ ap (λ (x : Level). x.nodes) (tier_read c.args.levels.now c.up.below c.index-levels-below.result (omega (arith, c.up-test.true)) c.index-levels-below.is)) c.up.invariant.0 c.up.invariant.1.cheap in
    let right = side_asks c.args.levels.now c.slice-in-up.result.now c.up.below c.up.place c.up.after c.requires.cells c.requires.tower (omega (arith, c.up-test.true, c.requires.tower.count))
    (c.slice-in-up.ensures ∙ ap (λ (x : Level). x.nodes) (tier_read c.args.levels.now c.up.below c.index-levels-below-in-up.result (omega (arith, c.up-test.true)) c.index-levels-below-in-up.is)) c.up.invariant.0 c.up.invariant.2.cheap in
    let one : c.with_left-before.new.products ≤ risen c.up.products 1 = c.with_left-before.ensures.products in
    let two : c.with_right-after.new.products ≤ risen c.with_left-before.new.products 1 = c.with_right-after.ensures.products in (
      left.next,
      before_step es c.args.at c.up.below c.up.place c.up.before c.with_left-before.result c.requires.cells c.up.invariant.0 c.up.invariant.1
          (λ odd. c.with_left-before.ensures.joined.right odd ∙ ap (λ l. product_of (slice_index_or l (2 * (c.up.place / 2)) []) c.up.before) left.here) c.with_left-before.ensures.joined.left,
      after_step es c.args.at c.up.below c.up.place c.up.after c.with_right-after.result c.requires.cells c.up.invariant.0 c.up.invariant.2
          (λ even there. c.with_right-after.ensures.joined.left even (subst (λ l. c.up.place + 1 < length l) (sym right.here) there) ∙ ap (λ l. product_of c.up.after (slice_index_or l (c.up.place + 1) [])) right.here)
          (λ end. c.with_right-after.ensures.joined.lone (subst (λ l. length l ≤ c.up.place + 1) (sym right.here) end)) c.with_right-after.ensures.joined.right,
      λ d few.
          sides_step es c.up.below d (length c.slice.result.now) c.args.products.now c.up.products c.with_left-before.new.products c.with_right-after.new.products (ap length left.here) few (c.up.invariant.3 d few) one two
          c.with_left-before.ensures.single (λ short. c.with_right-after.ensures.single (subst (λ l. length l ≤ 1) (left.here ∙ sym right.here) short)),
      omega (arith, c.up.invariant.4, c.with_left-before.ensures.rises, c.with_right-after.ensures.rises),
    )

pub returns-clause-before : goal.returns-clause-before
returns-clause-before g c =
    c.costs_from_none.ensures
    ∙ before_root c.args.levels.now c.args.at c.up.below c.up.place c.up.before c.requires.cells (omega (arith, c.up-test.false, c.up.auto.below-end, c.requires.tower.count)) c.up.invariant.0 c.up.invariant.1

pub returns-clause-after : goal.returns-clause-after
returns-clause-after g c =
    c.costs_to_none.ensures
    ∙ after_root c.args.levels.now c.args.at c.up.below c.up.place c.up.after c.requires.cells (omega (arith, c.up-test.false, c.up.auto.below-end, c.requires.tower.count)) c.up.invariant.2

pub returns-clause-products : goal.returns-clause-products
returns-clause-products g c = (c.up.invariant.4, λ d few. sides_end c.up.below d c.args.products.now c.up.products (c.up.invariant.3 d few))
