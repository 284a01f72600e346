use Rattle.std.proofs.Common.{◌≡◌, ◌≤◌, ◌<◌, ◌∙◌, ◌+◌, ◌-◌, ◌/◌, ◌++◌, ◌∷◌, [], length, take, subst, sym, ap, refl, arith}
use Rattle.std.specs.Prelude.{min}
use Rattle.rhythm_base.specs.Counter.{risen}
use Rattle.chain_bars.specs.Tower.{level}
use Rattle.chain_bars.proofs.Changes.{change_asks, change_end}
use Rattle.chain_bars.proofs.Endings.{end_held, end_start, end_step}
use Rattle.chain_bars.proofs.Lists.{level_read, room_read}
use Rattle.chain_bars.proofs.Towers.{way_step, way_end}
use Rattle.chain_bars.proofs.levels.renew_last.Goals as goal

pub renewal-init : goal.renewal-init
renewal-init g c = (c.requires, end_start c.args.levels.now c.requires, omega arith, λ d few. omega arith, omega arith)

pub overflow_sub-last : goal.overflow_sub-last
overflow_sub-last g c = (change_asks c.renewal.invariant.0.before (level c.args.levels.now 0) c.args.levels.now c.renewal.levels c.renewal.above c.slice-nodes.result.now c.index-levels-above.result c.renewal.invariant.0.cells c.renewal.invariant.1 c.renewal.invariant.2 (omega (arith, c.renewal-test.true, c.renewal.invariant.0.count)) c.slice-nodes.ensures).some

pub joined-node-requires-clause-few : goal.joined-node-requires-clause-few
joined-node-requires-clause-few g c κs within = (change_asks c.renewal.invariant.0.before (level c.args.levels.now 0) c.args.levels.now c.renewal.levels c.renewal.above c.slice-nodes.result.now c.index-levels-above.result c.renewal.invariant.0.cells c.renewal.invariant.1 c.renewal.invariant.2 (omega (arith, c.renewal-test.true, c.renewal.invariant.0.count)) c.slice-nodes.ensures).few

pub joined-node-requires-clause-at : goal.joined-node-requires-clause-at
joined-node-requires-clause-at g c κs within = let asked = (change_asks c.renewal.invariant.0.before (level c.args.levels.now 0) c.args.levels.now c.renewal.levels c.renewal.above c.slice-nodes.result.now c.index-levels-above.result c.renewal.invariant.0.cells c.renewal.invariant.1 c.renewal.invariant.2 (omega (arith, c.renewal-test.true, c.renewal.invariant.0.count)) c.slice-nodes.ensures) in let some = asked.some in omega (arith, some)

pub joined-node-requires-clause-cheap : goal.joined-node-requires-clause-cheap
joined-node-requires-clause-cheap g c κs within = (change_asks c.renewal.invariant.0.before (level c.args.levels.now 0) c.args.levels.now c.renewal.levels c.renewal.above c.slice-nodes.result.now c.index-levels-above.result c.renewal.invariant.0.cells c.renewal.invariant.1 c.renewal.invariant.2 (omega (arith, c.renewal-test.true, c.renewal.invariant.0.count)) c.slice-nodes.ensures).cheap

pub end_with-requires : goal.end_with-requires
end_with-requires g c =
    let high : c.renewal.above < 13 = omega (arith, c.renewal-test.true, c.renewal.invariant.0.count) in
    let held = end_held c.args.levels.now c.renewal.levels c.renewal.invariant.0 (c.renewal.above - 1) c.renewal.above ((length c.slice-nodes.result.now - 1) / 2) c.slice-nodes.result.now c.renewal.invariant.1 (omega (arith, c.renewal.invariant.2)) high (change_asks c.renewal.invariant.0.before (level c.args.levels.now 0) c.args.levels.now c.renewal.levels c.renewal.above c.slice-nodes.result.now c.index-levels-above.result c.renewal.invariant.0.cells c.renewal.invariant.1 c.renewal.invariant.2 (omega (arith, c.renewal-test.true, c.renewal.invariant.0.count)) c.slice-nodes.ensures).here refl in
    subst (λ n. (length c.slice-nodes.result.now - 1) / 2 < n) (sym (room_read c.renewal.levels c.renewal.above c.index-levels-above-in-renewal.result (omega (arith, c.renewal-test.true, c.renewal.auto.levels)))) held

pub renewal-preserved : goal.renewal-preserved
renewal-preserved g c =
    let asked = (change_asks c.renewal.invariant.0.before (level c.args.levels.now 0) c.args.levels.now c.renewal.levels c.renewal.above c.slice-nodes.result.now c.index-levels-above.result c.renewal.invariant.0.cells c.renewal.invariant.1 c.renewal.invariant.2 (omega (arith, c.renewal-test.true, c.renewal.invariant.0.count)) c.slice-nodes.ensures) in
    let again : c.renewal.above - 1 + 1 ≡ c.renewal.above + 1 - 1 = omega (arith, c.renewal.invariant.2) in
    let last = (length c.slice-nodes.result.now - 1) / 2 in
    let low : c.renewal.above < length c.renewal.levels = omega (arith, c.renewal-test.true, c.renewal.auto.levels) in (
      c.renewal.invariant.0,
      end_step c.args.levels.now c.renewal.levels c.renewal.invariant.0 (c.renewal.above - 1) c.renewal.above last c.slice-nodes.result.now c.joined-node.result c.end_with.new.self c.renewal.invariant.1 (omega (arith, c.renewal.invariant.2))
          (omega (arith, c.renewal-test.true, c.renewal.invariant.0.count)) asked.here refl c.joined-node.ensures.result
          (c.end_with.ensures.nodes ∙ ap (λ l. take last l ++ c.joined-node.result ∷ []) (level_read c.renewal.levels c.renewal.above c.index-levels-above-in-renewal.result low))
          (c.end_with.ensures.room ∙ room_read c.renewal.levels c.renewal.above c.index-levels-above-in-renewal.result low),
      omega arith,
      λ d few. subst (λ k. c.joined-node.new.products ≤ risen c.args.products.now (min k d)) again
          (way_step (level c.args.levels.now 0) (c.renewal.above - 1) d (length c.slice-nodes.result.now) last c.args.products.now c.renewal.products c.joined-node.new.products (ap length asked.here) few (c.renewal.invariant.3 d few) c.joined-node.ensures.two c.joined-node.ensures.lone),
      omega (arith, c.renewal.invariant.4, c.joined-node.ensures.rises),
    )

pub returns-clause-cells : goal.returns-clause-cells
returns-clause-cells g c = (change_end c.renewal.invariant.0.before _ c.args.levels.now c.renewal.levels c.renewal.above c.renewal.invariant.1 (omega (arith, c.renewal-test.false, c.renewal.invariant.0.count))).each 0 (omega arith)

pub returns-clause-tower : goal.returns-clause-tower
returns-clause-tower g c = change_end c.renewal.invariant.0.before _ c.args.levels.now c.renewal.levels c.renewal.above c.renewal.invariant.1 (omega (arith, c.renewal-test.false, c.renewal.invariant.0.count))

pub returns-clause-room : goal.returns-clause-room
returns-clause-room g c = c.renewal.invariant.1.room

pub returns-clause-products : goal.returns-clause-products
returns-clause-products g c = (c.renewal.invariant.4, λ d few. way_end (c.renewal.above - 1) d c.args.products.now c.renewal.products (c.renewal.invariant.3 d few))
