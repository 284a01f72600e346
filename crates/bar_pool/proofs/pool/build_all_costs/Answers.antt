use Rattle.std.proofs.Common.{◌≡◌, ◌<◌, ◌+◌, All, length, ap, sym, subst, ◌∙◌, arith}
use Rattle.std.specs.Prelude.{Some, slice_get}
use Rattle.std.proofs.lemmas.Result.{on_ok_weaker}
use Rattle.rhythm_base.specs.Lists.{Each}
use Rattle.bar_pool.specs.Costs.{AreAllCosts, AreCosts, AreCostsAt}
use Rattle.bar_pool.specs.Sources.{counted_from}
use Rattle.bar_pool.proofs.Closing.{with_both}
use Rattle.bar_pool.proofs.Numbers.{numbers_length, numbers_low, of_members}
use Rattle.bar_pool.proofs.pool.build_all_costs.Goals as goal

pub build_all_searched-requires-clause-ready : goal.build_all_searched-requires-clause-ready
build_all_searched-requires-clause-ready g c κs within = record { readable = c.requires.readable; plan_of = c.requires.plan; units = c.requires.units }

pub build_all_searched-requires-clause-within : goal.build_all_searched-requires-clause-within
build_all_searched-requires-clause-within g c κs within =
    let many = length c.args.order.now.cells.now in
    let is : c.as_slice-all.result.now ≡ counted_from 0 many = c.as_slice-all.ensures.value ∙ c.in_ok-numbers.ensures in
    subst (All (λ n. n < many)) (sym is) (numbers_low 0 many many (omega arith))

pub returns-clause-costs : goal.returns-clause-costs
returns-clause-costs g c =
    let grammar = c.args.order.now.grammar.now in
    let cells = c.args.order.now.cells.now in
    let is : c.as_slice-all.result.now ≡ counted_from 0 (length cells) = c.as_slice-all.ensures.value ∙ c.in_ok-numbers.ensures in
    with_both c.build_all_searched.result _ _ (λ v. AreAllCosts grammar cells v.items)
    (λ v h _. of_members (AreCostsAt grammar cells) (AreCosts grammar) 0 cells v.items
    (λ k x y e at. let here : 0 + k ≡ k = omega arith in at x (subst (λ n. slice_get cells n ≡ Some x) (sym here) e))
    (subst (λ l. Each (AreCostsAt grammar cells) l v.items) is h))
    c.build_all_searched.ensures.things c.build_all_searched.ensures.things

pub returns-clause-builds : goal.returns-clause-builds
returns-clause-builds g c =
    let many = length c.args.order.now.cells.now in
    let is : length c.as_slice-all.result.now ≡ many = ap length (c.as_slice-all.ensures.value ∙ c.in_ok-numbers.ensures) ∙ numbers_length 0 many in
    on_ok_weaker c.build_all_searched.result (λ rises. omega (arith, rises, is)) c.build_all_searched.ensures.builds

pub returns-clause-most : goal.returns-clause-most
returns-clause-most g c =
    let many = length c.args.order.now.cells.now in
    let is : length c.as_slice-all.result.now ≡ many = ap length (c.as_slice-all.ensures.value ∙ c.in_ok-numbers.ensures) ∙ numbers_length 0 many in
    let most = c.build_all_searched.ensures.most in
    (most.0, omega (arith, most.1, is))
