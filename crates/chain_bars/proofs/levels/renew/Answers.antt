use Rattle.std.proofs.Common.{◌≡◌, ◌≤◌, ◌<◌, ◌∙◌, ◌+◌, ◌-◌, ◌/◌, ◌^◌, length, subst, sym, ap, refl, arith}
use Rattle.std.specs.Prelude.{min, slice_set}
use Rattle.rhythm_base.specs.Counter.{risen}
use Rattle.chain_bars.specs.Tower.{AreCells, level, node_at}
use Rattle.chain_bars.proofs.Changes.{change_asks}
use Rattle.chain_bars.proofs.Lists.{level_read, room_read, set_length}
use Rattle.chain_bars.proofs.Renewals.{renew_step, set_cells}
use Rattle.chain_bars.proofs.Towers.{way_step}
use Rattle.chain_bars.proofs.levels.renew.Goals as goal

pub joined-node-requires-clause-few : goal.joined-node-requires-clause-few
joined-node-requires-clause-few g c κs within =
    let old = c.args.levels.now in
    let es = level old 0 in
    let fs = slice_set es c.args.at c.args.cell.now in
    let high : c.up.above < 13 = omega (arith, c.up-test.true, c.up.auto.levels, c.up.invariant.0.levels.count) in
    let asked = change_asks es fs old c.up.levels c.up.above c.slice.result.now c.index-levels-above.result (set_cells es c.args.at c.args.cell.now c.requires.cells c.see.ensures c.requires.cheap) c.up.invariant.0.levels c.up.invariant.1 high c.slice.ensures in
    asked.few

pub joined-node-requires-clause-cheap : goal.joined-node-requires-clause-cheap
joined-node-requires-clause-cheap g c κs within =
    let old = c.args.levels.now in
    let es = level old 0 in
    let fs = slice_set es c.args.at c.args.cell.now in
    let high : c.up.above < 13 = omega (arith, c.up-test.true, c.up.auto.levels, c.up.invariant.0.levels.count) in
    let asked = change_asks es fs old c.up.levels c.up.above c.slice.result.now c.index-levels-above.result (set_cells es c.args.at c.args.cell.now c.requires.cells c.see.ensures c.requires.cheap) c.up.invariant.0.levels c.up.invariant.1 high c.slice.ensures in
    asked.cheap

pub set-requires-in-up : goal.set-requires-in-up
set-requires-in-up g c =
    let old = c.args.levels.now in
    let es = level old 0 in
    let fs = slice_set es c.args.at c.args.cell.now in
    let high : c.up.above < 13 = omega (arith, c.up-test.true, c.up.auto.levels, c.up.invariant.0.levels.count) in
    let asked = change_asks es fs old c.up.levels c.up.above c.slice.result.now c.index-levels-above.result (set_cells es c.args.at c.args.cell.now c.requires.cells c.see.ensures c.requires.cheap) c.up.invariant.0.levels c.up.invariant.1 high c.slice.ensures in
    let step = renew_step es fs old c.up.levels c.up.above (c.up.above - 1) c.up.place (c.up.place / 2) c.joined-node.result c.up.invariant.0 (omega (arith, c.up.invariant.1)) high refl (c.joined-node.ensures.result ∙ ap (λ l. node_at l (c.up.place / 2)) asked.here) in
    let there : c.up.above < length c.up.levels = omega (arith, c.up-test.true, c.up.auto.levels) in
    let read = level_read c.up.levels c.up.above c.index-levels-above-in-up.result there in
    subst (λ l. c.up.place / 2 < length l) (sym read) step.within

pub up-preserved : goal.up-preserved
up-preserved g c =
    let old = c.args.levels.now in
    let es = level old 0 in
    let fs = slice_set es c.args.at c.args.cell.now in
    let high : c.up.above < 13 = omega (arith, c.up-test.true, c.up.auto.levels, c.up.invariant.0.levels.count) in
    let asked = change_asks es fs old c.up.levels c.up.above c.slice.result.now c.index-levels-above.result (set_cells es c.args.at c.args.cell.now c.requires.cells c.see.ensures c.requires.cheap) c.up.invariant.0.levels c.up.invariant.1 high c.slice.ensures in
    let step = renew_step es fs old c.up.levels c.up.above (c.up.above - 1) c.up.place (c.up.place / 2) c.joined-node.result c.up.invariant.0 (omega (arith, c.up.invariant.1)) high refl (c.joined-node.ensures.result ∙ ap (λ l. node_at l (c.up.place / 2)) asked.here) in
    let there : c.up.above < length c.up.levels = omega (arith, c.up-test.true, c.up.auto.levels) in
    let read = level_read c.up.levels c.up.above c.index-levels-above-in-up.result there in
    let again : c.up.above - 1 + 1 ≡ c.up.above + 1 - 1 = omega (arith, c.up.invariant.1) in (
      step.next c.set-in-up.new.self (c.set-in-up.ensures.nodes ∙ ap (λ l. slice_set l (c.up.place / 2) c.joined-node.result) read) (c.set-in-up.ensures.room ∙ room_read c.up.levels c.up.above c.index-levels-above-in-up.result there),
      omega arith,
      λ d few. subst (λ k. c.joined-node.new.products ≤ risen c.args.products.now (min k d)) again
          (way_step fs (c.up.above - 1) d (length c.slice.result.now) (c.up.place / 2) c.args.products.now c.up.products c.joined-node.new.products (ap length asked.here) (subst (λ n. n ≤ 2 ^ d) (sym (set_length es c.args.at c.args.cell.now)) few)
          (c.up.invariant.2 d few) c.joined-node.ensures.two c.joined-node.ensures.lone),
      omega (arith, c.up.invariant.3, c.joined-node.ensures.rises),
    )

pub returns-clause-sound : goal.returns-clause-sound
returns-clause-sound g c =
    let old = c.args.levels.now in
    let es = level old 0 in
    subst AreCells (sym (c.up.invariant.0.levels.new 0 (omega (arith, c.up.invariant.1)) (omega arith))) (set_cells es c.args.at c.args.cell.now c.requires.cells c.see.ensures c.requires.cheap)
