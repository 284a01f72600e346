use Rattle.std.proofs.Common.{◌≡◌, ◌∙◌, ◌-◌, ◌++◌, ◌∷◌, [], length, ap, sym, subst, arith}
use Rattle.chain_bars.specs.Tower.{Level, level, level_of}
use Rattle.chain_bars.specs.Walks.{AreCarries}
use Rattle.chain_bars.proofs.Lists.{tier_read}
use Rattle.chain_bars.proofs.Descents.{Asked, down_asks, down_step, root_carries}
use Rattle.chain_bars.proofs.carries.carries_of.Goals as goal
use Rattle.chain_bars.proofs.carries.carries_of.Goals.{After-as_slice}

pub down-init : goal.down-init
down-init c = (
  omega (arith, c.requires.tower.count),
  root_carries c.args.levels.now (length c.args.levels.now - 1) c.push-2.new.self.items c.requires.cells c.requires.path (omega (arith, c.requires.tower.count))
      (c.in_ok-push-2.ensures.items ∙ ap (λ l. l ++ 0 ∷ []) (c.in_ok-push.ensures.items ∙ ap (λ l. l ++ 0 ∷ []) c.new-counts.ensures.items)),
)

nodes_are : (c : After-as_slice) → c.slice.result.now ≡ level c.args.levels.now (c.down.below - 1)
nodes_are c = c.slice.ensures ∙ ap (λ (x : Level). x.nodes) (tier_read c.args.levels.now (c.down.below - 1) c.index-levels-below.result (omega (arith, c.down.invariant.0)) c.index-levels-below.is)

asked : (c : After-as_slice) → Asked c.slice.result.now c.as_slice.result.now
asked c =
    down_asks c.args.levels.now c.slice.result.now (c.down.below - 1) c.down.below c.as_slice.result.now c.requires.cells c.requires.tower (omega (arith, c.down-test.true)) (omega (arith, c.down.invariant.0, c.requires.tower.count)) (nodes_are c)
    (subst (AreCarries (level_of (level c.args.levels.now 0) c.down.below)) (sym c.as_slice.ensures.value) c.down.invariant.1)

pub one_down-requires-clause-few : goal.one_down-requires-clause-few
one_down-requires-clause-few c = (asked c).few

pub one_down-requires-clause-cheap : goal.one_down-requires-clause-cheap
one_down-requires-clause-cheap c = (asked c).cheap

pub one_down-requires-clause-some : goal.one_down-requires-clause-some
one_down-requires-clause-some c = (asked c).some

pub one_down-requires-clause-counts : goal.one_down-requires-clause-counts
one_down-requires-clause-counts c = (asked c).counts

pub one_down-requires-clause-covers : goal.one_down-requires-clause-covers
one_down-requires-clause-covers c = (asked c).covers

pub one_down-requires-clause-fits : goal.one_down-requires-clause-fits
one_down-requires-clause-fits c = (asked c).fits

pub down-preserved : goal.down-preserved
down-preserved c = (
  omega (arith, c.down.invariant.0),
  down_step c.args.levels.now c.slice.result.now (c.down.below - 1) c.down.below c.as_slice.result.now c.in_ok-counts.counts.items c.requires.cells c.requires.tower (omega (arith, c.down-test.true)) (omega (arith, c.down.invariant.0, c.requires.tower.count))
      (c.slice.ensures ∙ ap (λ (x : Level). x.nodes) (tier_read c.args.levels.now (c.down.below - 1) c.index-levels-below.result (omega (arith, c.down.invariant.0)) c.index-levels-below.is))
      (subst (AreCarries (level_of (level c.args.levels.now 0) c.down.below)) (sym c.as_slice.ensures.value) c.down.invariant.1) c.in_ok-counts.ensures,
)
