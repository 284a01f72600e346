use Rattle.std.proofs.Common.{◌≡◌, ◌∙◌, ◌-◌, length, sym, ap, arith}
use Rattle.chain_bars.specs.Tower.{Level, level, best_cost, cost_of}
use Rattle.rhythm_base.specs.Ranked.{least_key}
use Rattle.chain_bars.specs.Chain.{Chain}
use Rattle.chain_bars.proofs.Lists.{tier_read}
use Rattle.chain_bars.proofs.Growth.{root_is, root_some}
use Rattle.chain_bars.proofs.chain.Chain.total.Goals as goal
use Rattle.chain_bars.proofs.chain.Chain.total.Goals.{After-slice-top, After-get}

last : (c : After-slice-top) → length c.as_slice-levels.result.now - 1 ≡ 12
last c =
    let size = ap length c.as_slice-levels.ensures.value in
    omega (arith, size, c.self.invariant.tower.count)

top : (c : After-slice-top) → c.slice-top.result.now ≡ level c.self.inside.levels.items (length c.as_slice-levels.result.now - 1)
top c =
    let seen = c.as_slice-levels.result.now in
    let at_last = last c in
    c.slice-top.ensures
    ∙ ap (λ (x : Level). x.nodes) (tier_read seen (length seen - 1) c.index-levels-levels.result (omega (arith, at_last)) c.index-levels-levels.is)
    ∙ ap (λ v. level v (length seen - 1)) c.as_slice-levels.ensures.value

pub bounds-top-0 : goal.bounds-top-0
bounds-top-0 c = root_some c.self.inside.levels.items c.slice-top.result.now (length c.as_slice-levels.result.now - 1) c.self.invariant.cells c.self.invariant.tower (last c) (top c)

root : (c : After-get) → best_cost c.get.result ≡ cost_of (least_key c.args.self.now.cells 0 0)
root c =
    ap best_cost c.get.ensures.is
    ∙ root_is c.self.inside.levels.items c.slice-top.result.now (length c.as_slice-levels.result.now - 1) c.index-top-0.result c.self.invariant.cells c.self.invariant.tower (last c.before.before) (top c.before.before) c.index-top-0.is
    ∙ ap (λ (v : Chain). cost_of (least_key v.cells 0 0)) c.self.view_is

pub returns-in-None : goal.returns-in-None
returns-in-None c = ap best_cost (sym c.in-None.is) ∙ root c.before

pub returns-in-Some : goal.returns-in-Some
returns-in-Some c = ap best_cost (sym c.in-Some.is) ∙ root c.before
