use Rattle.std.proofs.Common.{◌+◌, ◌-◌, [], length, refl, arith}
use Rattle.chain_bars.specs.Reaches.{AreReachedCounts}
use Rattle.rhythm_base.specs.Paths.{IsDeadCell}
use Rattle.chain_bars.proofs.Lists.{index_same}
use Rattle.chain_bars.proofs.Deaths.{before_more, dead_here, dead_last, marked_any, not_both, reached_step, reached_total}
use Rattle.chain_bars.proofs.dead.first_dead_of.Goals as goal
use Rattle.chain_bars.proofs.dead.first_dead_of.Goals.{Then-not-is_any, Else-reached}

dead_now : (c : Then-not-is_any) → IsDeadCell c.args.cells.now c.cells.number
dead_now c =
    dead_here c.args.cells.now c.cells.number (c.cells.number + 1) c.after-next.result c.is_any.result refl c.cells-test.true
    (reached_step c.args.cells.now c.cells.number (c.cells.number + 1) c.index-cells-number.result c.cells.reached c.after-next.result (omega arith) c.cells-test.true
    (index_same c.args.cells.now c.cells.number c.index-cells-number.result [] c.cells-test.true c.index-cells-number.is) c.cells.invariant.0 c.after-next.ensures)
    c.cells.invariant.1 c.is_any.ensures c.if-not-is_any.true

pub returns-then-not-is_any-clause-dead : goal.returns-then-not-is_any-clause-dead
returns-then-not-is_any-clause-dead c = dead_now c

pub returns-then-not-is_any-clause-none : goal.returns-then-not-is_any-clause-none
returns-then-not-is_any-clause-none c = ((λ e. absurd (cc)), λ h. absurd (not_both c.args.cells.now c.cells.number (dead_now c) h))

pub cells-preserved : goal.cells-preserved
cells-preserved c =
    let next : AreReachedCounts c.args.cells.now (c.cells.number + 1) c.after-next.result =
    reached_step c.args.cells.now c.cells.number (c.cells.number + 1) c.index-cells-number.result c.cells.reached c.after-next.result (omega arith) c.cells-test.true
    (index_same c.args.cells.now c.cells.number c.index-cells-number.result [] c.cells-test.true c.index-cells-number.is) c.cells.invariant.0 c.after-next.ensures in
    (next, before_more c.args.cells.now c.cells.number c.cells.invariant.1 (marked_any c.args.cells.now (c.cells.number + 1) c.after-next.result next (c.is_any.ensures.0 (cc))))

pub returns-then-reached-clause-none : goal.returns-then-reached-clause-none
returns-then-reached-clause-none c = (
  (λ e. reached_total c.args.cells.now c.cells.number c.cells-test.false ((c.cells.invariant.0 0 (omega arith)).0 c.if-reached.true)),
  λ h. refl,
)

dead_end : (c : Else-reached) → IsDeadCell c.args.cells.now (length c.args.cells.now - 1)
dead_end c =
    dead_last c.args.cells.now c.cells.number (length c.args.cells.now - 1) c.cells.reached (omega (arith, c.cells-test.false, c.cells.auto.number-end)) (omega (arith, c.cells-test.false, c.cells.auto.number-end, c.requires.some))
    c.cells.invariant.0 c.cells.invariant.1 c.if-reached.false

pub returns-else-reached-clause-dead : goal.returns-else-reached-clause-dead
returns-else-reached-clause-dead c = dead_end c

pub returns-else-reached-clause-none : goal.returns-else-reached-clause-none
returns-else-reached-clause-none c = ((λ e. absurd (cc)), λ h. absurd (not_both c.args.cells.now (length c.args.cells.now - 1) (dead_end c) h))
